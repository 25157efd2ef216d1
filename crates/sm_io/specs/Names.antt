-- Which bytes make a name.
use Rattle.std.specs.Prelude.{ℕ, Bool, ◌&&◌, ◌||◌, nat_le, ◌==◌, List, length, IsTrue}
use Rattle.std.specs.List.{list_all}

-- a letter, a digit or an underscore
abbrev pub is_name_byte : ℕ → Bool
is_name_byte b = (nat_le 48 b && nat_le b 57) || (nat_le 65 b && nat_le b 90) || (nat_le 97 b && nat_le b 122) || (b == 95)

-- 1 to 31 bytes of names
abbrev pub IsNameBytes : List ℕ → Type 0
IsNameBytes bytes = IsTrue (nat_le 1 (length bytes) && nat_le (length bytes) 31 && list_all is_name_byte bytes)
