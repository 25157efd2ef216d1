-- What a lowered specification declares, and how much it stores.
use Rattle.std.proofs.Common.{◌≡◌, ℕ, ◌+◌, List, ◌++◌, length, map, refl, ap, ◌∙◌}
use Rattle.std.specs.Prelude.{sum}
use Rattle.stream_types.specs.Types.{size}
use Rattle.stream_core.specs.declared.spec.ExternItem.{ExternItem}
use Rattle.stream_core.specs.Term.{Term, TreeSpec, TreeStream, TreeTrigger, TreeObserver, root_with, initial_count, written_out, without_defs}
use Rattle.stream_core.specs.Limits.{ring_bytes, storage_of_plain}
use Rattle.stream_core.specs.Lower.{lowered, lowered_spec, buffer_of, all_buffers}
use Rattle.form_laws.specs.Kept.{bare_root, bare_stream, bare_def, bare_trigger, bare_observer, KeepsDeclarations}
use Rattle.form_laws.proofs.OutOfSpecs.{map_twice, map_append, map_alike, lowered_def}

module _ (s : TreeSpec) where
  abbrev at : ℕ → ℕ
  at = buffer_of (length s.streams) s.libs

  abbrev low : Term → Term
  low e = lowered at e

  abbrev low_stream : TreeStream → TreeStream
  low_stream x = record x { expr = low x.expr }

  abbrev low_trigger : TreeTrigger → TreeTrigger
  low_trigger x = record x { guard = root_with low x.guard; args = map (root_with low) x.args }

  abbrev low_observer : TreeObserver → TreeObserver
  low_observer x = record x { root = root_with low x.root }

  trigger_kept : (x : TreeTrigger) → bare_trigger (low_trigger x) ≡ bare_trigger x
  trigger_kept x = ap (λ rs. record x { guard = bare_root x.guard; args = rs }) (map_twice bare_root (root_with low) x.args)

  abbrev others : List TreeStream
  others = map bare_stream (all_buffers low 1 (length s.streams) s.libs)

  streams_kept : map bare_stream (map low_stream s.streams ++ all_buffers low 1 (length s.streams) s.libs) ≡ map bare_stream s.streams ++ others
  streams_kept = map_append bare_stream (map low_stream s.streams) (all_buffers low 1 (length s.streams) s.libs) ∙ ap (λ xs. xs ++ others) (map_twice bare_stream low_stream s.streams)

  pub declarations_kept : KeepsDeclarations s (lowered_spec s)
  declarations_kept = record {
    name = refl;
    types = refl;
    externs = refl;
    others = others;
    streams = streams_kept;
    defs = map_twice bare_def (lowered_def at) s.defs;
    triggers = map_twice bare_trigger low_trigger s.triggers ∙ map_alike _ _ s.triggers trigger_kept;
    observers = map_twice bare_observer low_observer s.observers;
  }

-- writing the defs out stores nothing more
pub storage_stays : (p : TreeSpec) → storage_of_plain (without_defs p) ≡ storage_of_plain p
storage_stays p =
    ap (λ ns. sum ns + sum (map (λ (x : ExternItem). size p.types x.ty) p.externs))
    (map_twice (λ (x : TreeStream). ring_bytes (initial_count p.types x) (size p.types x.ty)) (λ (x : TreeStream). record x { expr = written_out p.defs x.expr }) p.streams)
