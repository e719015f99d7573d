-- The laws of this crate.
use Rattle.std.proofs.Common.{◌≡◌, ℕ, ◌+◌, subst, arith}
use Rattle.region_shape.specs.Sizes.{IsWithin}
use Rattle.region_shape.specs.Laws.{SettledHaveShape, SettledAreWithin, SettledNameObjects, SettledHoldAll}
use Rattle.machine.specs.Linked.{program_of}
use Rattle.semantics.proofs.BigStepsLemmas.{steps_agree_lem}
use Rattle.machine.proofs.LawsLemmas.{table_is_lawful_lem}
use Rattle.region_shape.proofs.NamesLemmas.{settled_names, settled_all}
use Rattle.region_shape.proofs.SizesLemmas.{run_within}
use Rattle.region_shape.proofs.StaticsLemmas.{first_shape}
use Rattle.region_shape.proofs.QuietShapeLemmas.{run_keeps}

pub settled_have_shape_lem : SettledHaveShape
settled_have_shape_lem P linked env shaped c n region from settles =
    run_keeps P linked env shaped c ((steps_agree_lem (program_of P) env c n region).0 settles)
    (first_shape P linked.program c from)

pub settled_name_objects_lem : SettledNameObjects
settled_name_objects_lem P is env all c n region none settles =
    settled_names (program_of P) (table_is_lawful_lem P is) env all c none n region settles

pub settled_hold_all_lem : SettledHoldAll
settled_hold_all_lem P env c n region settles = settled_all (program_of P) env c n region settles

pub settled_are_within_lem : SettledAreWithin
settled_are_within_lem P linked env shaped c n region from settles =
    let same : 0 + n ≡ n = omega arith in
    subst (λ (b : ℕ). IsWithin b region) same
    (run_within P linked env shaped c 0 ((steps_agree_lem (program_of P) env c n region).0 settles)
    (first_shape P linked.program c from)
    (record { count = omega arith; arrays = λ k o at. absurd cc }))
