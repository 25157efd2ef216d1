-- Eleven defs that double, and a trigger that takes one of them, are well typed.
use Rattle.std.proofs.Common.{◌≡◌, ℕ, zero, suc, ◌+◌, ◌*◌, ◌<◌, List, [], ◌∷◌, Some, refl, sym, ap, ◌∙◌, subst, arith}
use Rattle.std.specs.Prelude.{slice_get}
use Rattle.std.specs.List.{AllByRecursion}
use Rattle.std.proofs.lemmas.List.Elements.{All-nil}
use Rattle.sm_io.specs.Words.{reserved, limit_fronts, limit_ends}
use Rattle.stream_types.specs.declared.scalar.Ty.{Ty}
use Rattle.stream_types.specs.TypeList.{Stands}
use Rattle.stream_core.specs.declared.node.Node.{Node}
use Rattle.stream_core.specs.declared.spec.ExternItem.{ExternItem}
use Rattle.stream_core.specs.declared.spec.DefItem.{DefItem}
use Rattle.stream_core.specs.declared.spec.TriggerItem.{TriggerItem}
use Rattle.stream_core.specs.Value.{SpecValue}
use Rattle.stream_core.specs.Ordered.{all_parts}
use Rattle.stream_core.specs.Term.{tree, trees, tree_root}
use Rattle.stream_core.specs.Signature.{signature_of}
use Rattle.stream_core.specs.WellTyped.{bool, HasType, HasGoodNames, IsName, IsGoodDef, IsGoodTrigger, RootHasType, WellTyped, argument_types}
use Rattle.stream_core.proofs.Premises.{no_types}
use Rattle.recursion_check.proofs.Places.{each_of}
use Rattle.recursion_check.specs.TestSpecs.{word8, doubled, bare_trigger}
use Rattle.recursion_check.proofs.Each.{Each, each_at, once_by, up, up_rising, among}
use Rattle.sm_io.proofs.Elements.{get_within, all_by_place}

module _ (d : ℕ) where
  abbrev s : SpecValue
  s = doubled d

  abbrev Typed : ℕ → Node → Type 0
  Typed i n = (t : Ty) × HasType (signature_of (trees s)) (tree s.nodes [] i) t

  each_typed : Each s.nodes Typed
  unfolding tree
  each_typed = (
    (bool, (refl, refl)),
    (
      (word8, refl),
      (
        (word8, (refl, refl, refl, refl)),
        (
          (word8, refl),
          (
            (word8, (refl, refl, refl, refl)),
            (
              (word8, refl),
              (
                (word8, (refl, refl, refl, refl)),
                (
                  (word8, refl),
                  (
                    (word8, (refl, refl, refl, refl)),
                    (
                      (word8, refl),
                      (
                        (word8, (refl, refl, refl, refl)),
                        (
                          (word8, refl),
                          (
                            (word8, (refl, refl, refl, refl)),
                            (
                              (word8, refl),
                              (
                                (word8, (refl, refl, refl, refl)),
                                (
                                  (word8, refl),
                                  (
                                    (word8, (refl, refl, refl, refl)),
                                    (
                                      (word8, refl),
                                      (
                                        (word8, (refl, refl, refl, refl)),
                                        (
                                          (word8, refl),
                                          (
                                            (word8, (refl, refl, refl, refl)),
                                            (
                                              (word8, refl),
                                              (
                                                (word8, (refl, refl, refl, refl)),
                                                (
                                                  (word8, refl),
                                                  tt,
                                                ),
                                              ),
                                            ),
                                          ),
                                        ),
                                      ),
                                    ),
                                  ),
                                ),
                              ),
                            ),
                          ),
                        ),
                      ),
                    ),
                  ),
                ),
              ),
            ),
          ),
        ),
      ),
    ),
  )

  each_ordered : Each s.nodes (λ i n. AllByRecursion (λ j. j < i) (all_parts [] n))
  each_ordered = (
    tt,
    (
      tt,
      (
        (omega arith, (omega arith, tt)),
        (
          tt,
          (
            (omega arith, (omega arith, tt)),
            (
              tt,
              (
                (omega arith, (omega arith, tt)),
                (
                  tt,
                  (
                    (omega arith, (omega arith, tt)),
                    (
                      tt,
                      (
                        (omega arith, (omega arith, tt)),
                        (
                          tt,
                          (
                            (omega arith, (omega arith, tt)),
                            (
                              tt,
                              (
                                (omega arith, (omega arith, tt)),
                                (
                                  tt,
                                  (
                                    (omega arith, (omega arith, tt)),
                                    (
                                      tt,
                                      (
                                        (omega arith, (omega arith, tt)),
                                        (
                                          tt,
                                          (
                                            (omega arith, (omega arith, tt)),
                                            (
                                              tt,
                                              (
                                                (omega arith, (omega arith, tt)),
                                                (
                                                  tt,
                                                  tt,
                                                ),
                                              ),
                                            ),
                                          ),
                                        ),
                                      ),
                                    ),
                                  ),
                                ),
                              ),
                            ),
                          ),
                        ),
                      ),
                    ),
                  ),
                ),
              ),
            ),
          ),
        ),
      ),
    ),
  )

  good_defs : AllByRecursion (IsGoodDef (signature_of (trees s))) (trees s).defs
  unfolding tree
  good_defs = (
    record { stands = tt; expr = (refl, refl, refl, refl) },
    (
      record { stands = tt; expr = (refl, refl, refl, refl) },
      (
        record { stands = tt; expr = (refl, refl, refl, refl) },
        (
          record { stands = tt; expr = (refl, refl, refl, refl) },
          (
            record { stands = tt; expr = (refl, refl, refl, refl) },
            (
              record { stands = tt; expr = (refl, refl, refl, refl) },
              (
                record { stands = tt; expr = (refl, refl, refl, refl) },
                (
                  record { stands = tt; expr = (refl, refl, refl, refl) },
                  (
                    record { stands = tt; expr = (refl, refl, refl, refl) },
                    (
                      record { stands = tt; expr = (refl, refl, refl, refl) },
                      (
                        record { stands = tt; expr = (refl, refl, refl, refl) },
                        tt,
                      ),
                    ),
                  ),
                ),
              ),
            ),
          ),
        ),
      ),
    ),
  )

  abbrev letters : List ℕ
  letters = up 97 12

  t_item : TriggerItem
  t_item = bare_trigger (record { expr = 2 * d + 1; ty = word8; at = 200 } ∷ [])

  only : (i : ℕ) (x : TriggerItem) → slice_get s.triggers i ≡ Some x → (x.name ≡ 116 ∷ []) × (argument_types x ≡ word8 ∷ [])
  only zero x e = let P : TriggerItem → Type 0 = λ y. (y.name ≡ 116 ∷ []) × (argument_types y ≡ word8 ∷ []) in subst P (some _ x e) (refl, refl)
    where
      some : (y z : TriggerItem) → Some y ≡ Some z → y ≡ z
      some y z f = cc
  only (suc i) x e = absurd (cc)

  below_t : AllByRecursion (λ k. k < 116) letters
  below_t = (omega arith, (omega arith, (omega arith, (omega arith, (omega arith, (omega arith, (omega arith, (omega arith, (omega arith, (omega arith, (omega arith, (omega arith, tt))))))))))))

  good_names : HasGoodNames s
  unfolding reserved limit_fronts limit_ends
  good_names = record {
    spec = refl;
    types = All-nil _;
    externs = all_by_place (λ (x : ExternItem). IsName x.name) s.externs (refl, tt);
    streams = All-nil _;
    defs = all_by_place (λ (x : DefItem). IsName x.name) s.defs (refl, (refl, (refl, (refl, (refl, (refl, (refl, (refl, (refl, (refl, (refl, tt)))))))))));
    triggers = all_by_place (λ (x : TriggerItem). IsName x.name) s.triggers (refl, tt);
    observers = All-nil _;
    once = once_by letters (up_rising 12 97);
    apart = λ i j x e f. let h = each_of (λ k. k < 116) letters 116 below_t (among letters j 116 (f ∙ ap Some (only i x e).0)) in absurd (omega (arith, h));
    alike = λ i j x y e f q. (only i x e).1 ∙ sym (only j y f).1;
  }

  pub doubled_typed : HasType (signature_of (trees s)) (tree s.nodes [] (2 * d + 1)) word8 → WellTyped (doubled d)
  unfolding tree
  doubled_typed arg = record {
    types = no_types;
    ordered = record { below = each_at s.nodes (λ i n. AllByRecursion (λ j. j < i) (all_parts [] n)) each_ordered };
    nodes = λ i h. let x = get_within s.nodes i h in each_at s.nodes Typed each_typed i x.0 x.1;
    externs = all_by_place (λ (x : ExternItem). Stands [] x.ty) s.externs (tt, tt);
    streams = All-nil _;
    defs = all_by_place (IsGoodDef (signature_of (trees s))) (trees s).defs good_defs;
    triggers = all_by_place (IsGoodTrigger (signature_of (trees s))) (trees s).triggers (record { guard = (refl, refl); truth = refl; args = all_by_place (RootHasType (signature_of (trees s))) (tree_root (tree s.nodes []) (record { expr = 2 * d + 1; ty = word8; at = 200 }) ∷ []) (arg, tt); few = omega arith }, tt);
    observers = All-nil _;
    libs = All-nil _;
    names = good_names;
  }

pub ten : WellTyped (doubled 10)
unfolding tree
ten = doubled_typed 10 refl

pub eleven : WellTyped (doubled 11)
unfolding tree
eleven = doubled_typed 11 refl
