-- Flags of classes beside the members that they flag.
use Rattle.std.proofs.Common.{◌≡◌, ◌↔◌, ℕ, ◌+◌, ◌<◌, Bool, true, false, List, [], ◌∷◌, ◌++◌, length, take, get_or, set}
use Rattle.std.proofs.Common.{replicate, refl, sym, ap, subst, arith, ◌∙◌}
use Rattle.std.specs.List.{Contains}
use Rattle.std.specs.Prelude.{IsTrue, count_by}
use Rattle.std.proofs.lemmas.Grind.{common_steps}
use Rattle.std.proofs.lemmas.List.{length-take-le, take_more_set, length-set, length_push}
use Rattle.graph.specs.Seen.{Joins}
use Rattle.graph.proofs.FlagsLemmas.{visited_push, visited_small, flagged_is_member, member_is_flagged}
use Rattle.hierarchy.specs.steps.Flagged.{IsFlagged}

pub flagged_none : (n : ℕ) (members : List ℕ) → IsFlagged (replicate n false) members 0
flagged_none n members = record {
  within = omega arith;
  visited = record { total = none_flagged n; counted = λ x. grind (arith, common_steps) };
}
  where
    none_flagged : (n : ℕ) → count_by (λ (b : Bool). b) (replicate n false) ≡ 0
    none_flagged n = grind (arith, common_steps)

-- where a flag is free there is room for a member
pub has_room : (flags : List Bool) (members : List ℕ) (count class : ℕ) → length flags ≡ length members
    → class < length flags → get_or flags class false ≡ false → IsFlagged flags members count → count < length members
has_room flags members count class same below clear is =
    let small = visited_small (set flags class true) (take count members ++ class ∷ [])
    (visited_push flags (take count members) (take count members ++ class ∷ []) class below clear refl is.visited) in
    omega (
      arith,
      small,
      length-set flags class true,
      length_push (take count members) class,
      length-take-le count members is.within,
    )

pub flagged_more : (flags : List Bool) (members : List ℕ) (count class : ℕ) → count < length members
    → class < length flags → get_or flags class false ≡ false → IsFlagged flags members count
    → IsFlagged (set flags class true) (set members count class) (count + 1)
flagged_more flags members count class room below clear is = record {
  within = omega (arith, length-set members count class);
  visited = visited_push flags (take count members) (take (count + 1) (set members count class)) class below clear
      (take_more_set members count class room) is.visited;
}

-- a flag tells whether a class is a member
pub flag_tells : (flags : List Bool) (members now : List ℕ) (count class : ℕ) (b : Bool) → take count members ≡ now
    → IsFlagged flags members count → b ≡ get_or flags class false → IsTrue b ↔ Contains now class
flag_tells flags members now count class b view is read =
    subst (λ (xs : List ℕ). IsTrue b ↔ Contains xs class) view (
      λ h. flagged_is_member flags (take count members) class is.visited (sym read ∙ h),
      λ h. read ∙ member_is_flagged flags (take count members) class is.visited h,
    )

-- and the class joins where it is free
pub joins_free : (flags : List Bool) (members now : List ℕ) (count class : ℕ) → count < length members
    → take count members ≡ now → get_or flags class false ≡ false → IsFlagged flags members count
    → Joins true now class (take (count + 1) (set members count class))
joins_free flags members now count class room view clear is = (
  λ has. (let flagged = (flag_tells flags members now count class false view is (sym clear)).1 has in cc),
  take_more_set members count class room ∙ ap (λ (xs : List ℕ). xs ++ class ∷ []) view,
)
