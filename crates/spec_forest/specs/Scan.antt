-- Comments, depth, and the first fault of scanning a text.
use Rattle.std.specs.Prelude.{ℕ, zero, suc, ◌+◌, ◌-◌, Bool, false, not, ◌==◌, ◌&&◌, ◌||◌, if◌then◌else◌, nat_lt, nat_le, List, length, slice_index, Option, Some, None}

-- what is wrong with a text, and at which byte
pub data TextFault : Type 0 where
  text_too_long : TextFault
  bad_byte : ℕ → TextFault
  unbalanced : ℕ → TextFault
  too_deep : ℕ → TextFault

-- the most bytes of a text
abbrev pub longest_text : ℕ
longest_text = 1048576

-- the most lists that may stand within one another
abbrev pub deepest : ℕ
deepest = 64

-- ---- bytes

abbrev pub is_break : ℕ → Bool
is_break b = b == 10

-- space, tab, line feed and carriage return
abbrev pub is_blank : ℕ → Bool
is_blank b = (b == 32) || (b == 9) || (b == 10) || (b == 13)

-- `;`, `(` and `)`
abbrev pub is_mark : ℕ → Bool
is_mark b = b == 59

abbrev pub is_left : ℕ → Bool
is_left b = b == 40

abbrev pub is_right : ℕ → Bool
is_right b = b == 41

-- what may stand outside comments
abbrev pub is_allowed : ℕ → Bool
is_allowed b = (b == 9) || (b == 10) || (b == 13) || (nat_le 32 b && nat_le b 126)

-- ---- numbers below n

-- whether one passes
abbrev pub some_below : ℕ → (ℕ → Bool) → Bool
some_below zero p = false
some_below (suc n) p = p n || some_below n p

-- how many pass
abbrev pub count_below : ℕ → (ℕ → Bool) → ℕ
count_below zero p = 0
count_below (suc n) p = count_below n p + (if p n then 1 else 0)

-- the first of two, if it is there
abbrev pub earlier : {X : Type 0} → Option X → Option X → Option X
earlier None y = y
earlier (Some x) y = Some x

-- what the least one has that has something
abbrev pub first_below : {X : Type 0} → ℕ → (ℕ → Option X) → Option X
first_below zero f = None
first_below (suc n) f = earlier (first_below n f) (f n)

-- ---- places of a text

-- some byte from j to before k is a line feed
unfoldable pub has_break : List ℕ → ℕ → ℕ → Bool
has_break text j k = some_below k (λ i. nat_le j i && is_break (slice_index text i))

-- byte k is within a comment: some byte j ≤ k is `;`, and none from j to before k is a line feed
unfoldable pub commented : List ℕ → ℕ → Bool
commented text k = some_below (suc k) (λ j. is_mark (slice_index text j) && not (has_break text j k))

-- an uncommented `(` or `)`
unfoldable pub opens : List ℕ → ℕ → Bool
opens text k = not (commented text k) && is_left (slice_index text k)

unfoldable pub closes : List ℕ → ℕ → Bool
closes text k = not (commented text k) && is_right (slice_index text k)

-- how many lists are open before byte k
unfoldable pub depth : List ℕ → ℕ → ℕ
depth text k = count_below k (opens text) - count_below k (closes text)

-- ---- faults

-- what is wrong with byte b at place k, where d lists are open
abbrev pub byte_fault : ℕ → ℕ → ℕ → Option TextFault
byte_fault b k d =
    if not (is_allowed b) then Some (bad_byte k)
    else if is_right b && d == 0 then Some (unbalanced k)
    else if is_left b && d == deepest then Some (too_deep k)
    else None

-- what is wrong at place k
unfoldable pub fault_at : List ℕ → ℕ → Option TextFault
fault_at text k = if commented text k then None else byte_fault (slice_index text k) k (depth text k)

-- what is wrong at the end of a text of n bytes, where d lists are open
abbrev pub end_fault : ℕ → ℕ → Option TextFault
end_fault n d = if d == 0 then None else Some (unbalanced n)

-- the first fault of a text: its length, the least place with a fault, the end
unfoldable pub scan_fault : List ℕ → Option TextFault
scan_fault text =
    if nat_lt longest_text (length text) then Some text_too_long
    else earlier (first_below (length text) (fault_at text)) (end_fault (length text) (depth text (length text)))
