-- A plain specification stays plain with its defs written out.
use Rattle.std.proofs.Common.{◌≡◌, ℕ, zero, suc, List, length, map, Option, Some, None, refl, ap, subst}
use Rattle.std.specs.Prelude.{slice_get, All}
use Rattle.std.proofs.lemmas.Option.{slice_get_within, get_or_from_slice_get}
use Rattle.stream_core.specs.Term.{Term, Terms, lit, extern, stream, def, named, missing, dropped, un, bin, shift, cast, and, or, implies, choose, index, field, array, struct, abs, sign, majority, agreed, lib, end, more, TreeSpec, TreeStream, TreeDef, TreeTrigger, TreeObserver, TreeLib, TreeRoot, with_defs, all_with_defs, def_at, def_to, written_out, root_with, without_defs}
use Rattle.stream_core.specs.Plain.{IsPlain, ArePlain, IsPlainTrigger, IsPlainSpec}
use Rattle.stream_core.proofs.Extended.{all_changed}

module _ (f : ℕ → Term) (plain : (d : ℕ) → IsPlain (f d)) where
  mutual
    with_plain : (e : Term) → IsPlain e → IsPlain (with_defs f e)
    with_plain (lit s w) h = tt
    with_plain (extern x) h = tt
    with_plain (stream s) h = tt
    with_plain (def d) h = plain d
    with_plain (named d a) h = with_plain a h
    with_plain missing h = tt
    with_plain (dropped s k) h = tt
    with_plain (un o s a) h = with_plain a h
    with_plain (bin o s a b) h = (with_plain a h.0, with_plain b h.1)
    with_plain (shift d s a cs b) h = (with_plain a h.0, with_plain b h.1)
    with_plain (cast g t a) h = with_plain a h
    with_plain (and a b) h = (with_plain a h.0, with_plain b h.1)
    with_plain (or a b) h = (with_plain a h.0, with_plain b h.1)
    with_plain (implies a b) h = (with_plain a h.0, with_plain b h.1)
    with_plain (choose c a b) h = (with_plain c h.0, with_plain a h.1, with_plain b h.2)
    with_plain (index t a b) h = (with_plain a h.0, with_plain b h.1)
    with_plain (field t k a) h = with_plain a h
    with_plain (array t es) h = all_with_plain es h
    with_plain (struct t es) h = all_with_plain es h
    with_plain (abs s a) h = absurd h
    with_plain (sign s a) h = absurd h
    with_plain (majority s es) h = absurd h
    with_plain (agreed s es) h = absurd h
    with_plain (lib k g es) h = absurd h

    all_with_plain : (es : Terms) → ArePlain es → ArePlain (all_with_defs f es)
    all_with_plain end h = tt
    all_with_plain (more a es) h = (with_plain a h.0, all_with_plain es h.1)

module _ (defs : List TreeDef) (good : All (λ (x : TreeDef). IsPlain x.expr) defs) where
  def_at_plain : (f : ℕ → Term) → ((d : ℕ) → IsPlain (f d)) → (d : ℕ) (o : Option TreeDef) → slice_get defs d ≡ o → IsPlain (def_at f o)
  def_at_plain f h d None e = tt
  def_at_plain f h d (Some x) e = with_plain f h x.expr (subst (λ (y : TreeDef). IsPlain y.expr) (get_or_from_slice_get defs d x x e) (good d x (slice_get_within defs d x e)))

  def_plain : (n d : ℕ) → IsPlain (def_to defs n d)
  def_plain zero d = tt
  def_plain (suc n) d = def_at_plain (def_to defs n) (def_plain n) d (slice_get defs d) refl

  out_plain : (e : Term) → IsPlain e → IsPlain (written_out defs e)
  out_plain e h = with_plain (def_to defs (length defs)) (def_plain (length defs)) e h

module _ (s : TreeSpec) (h : IsPlainSpec s) where
  abbrev out : Term → Term
  out e = written_out s.defs e

  stays : (e : Term) → IsPlain e → IsPlain (out e)
  stays e p = out_plain s.defs h.defs e p

  abbrev Root : TreeRoot → Type 0
  Root r = IsPlain r.expr

  trigger_stays : (x : TreeTrigger) → IsPlainTrigger x → IsPlainTrigger (record x { guard = root_with out x.guard; args = map (root_with out) x.args })
  trigger_stays x p = (stays x.guard.expr p.0, all_changed Root Root (root_with out) (λ r q. stays r.expr q) x.args p.1)

  pub plain_stays : IsPlainSpec (without_defs s)
  plain_stays = record {
    libs = ap (map (λ (x : TreeLib). record x { args = map out x.args })) h.libs;
    streams = all_changed (λ (x : TreeStream). IsPlain x.expr) (λ (x : TreeStream). IsPlain x.expr) (λ (x : TreeStream). record x { expr = out x.expr }) (λ x p. stays x.expr p) s.streams h.streams;
    defs = h.defs;
    triggers = all_changed IsPlainTrigger IsPlainTrigger (λ (x : TreeTrigger). record x { guard = root_with out x.guard; args = map (root_with out) x.args }) trigger_stays s.triggers h.triggers;
    observers = all_changed (λ (x : TreeObserver). IsPlain x.root.expr) (λ (x : TreeObserver). IsPlain x.root.expr) (λ (x : TreeObserver). record x { root = root_with out x.root }) (λ x p. stays x.root.expr p) s.observers h.observers;
  }
