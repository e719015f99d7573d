-- What the bodies of methods need, and what is told of them.
use Rattle.std.proofs.Common.{◌≡◌, ◌↔◌, ◌⊎◌, ℕ, ◌+◌, List, [], ◌∷◌, ◌++◌, length, Some, slice_get, sym}
use Rattle.std.proofs.Common.{ap, subst, ◌∙◌, inl, inr, arith, Vec, Global}
use Rattle.std.specs.List.{Contains}
use Rattle.std.proofs.lemmas.List.{length_push}
use Rattle.hierarchy.specs.declared.member.DeclaredMember.{DeclaredMember}
use Rattle.program.specs.Tables.{Tables}
use Rattle.use_graph.specs.declared.code.Deed.{Deed}
use Rattle.use_graph.specs.declared.body.Told.{Told}
use Rattle.use_graph.specs.declared.body.BodyUses.{BodyUses}
use Rattle.use_graph.specs.steps.Deeds.{deeds_in, IsToldOf, NeedsSo, HoldsOfOne}
use Rattle.use_graph.specs.steps.Bodies.{AreUsesOf, AreBodyUses, AreAllBodyUses, AddsBody}
use Rattle.use_graph.specs.Uses.{Needs}
use Rattle.use_graph.specs.steps.Bodies.{IsToldIn}
use Rattle.use_graph.proofs.NumbersLemmas.{push_cases}
use Rattle.use_graph.proofs.DeedsLemmas.{needs_by, told_by}

-- what was added to nothing
pub from_none : {X : Type 0} (none new : List X) (Q : X → Type 0) → none ≡ []
    → ((x : X) → Contains new x ↔ (Contains none x ⊎ Q x)) → (x : X) → Contains new x ↔ Q x
from_none {X} none new Q empty all x = (
  λ p. elim ((all x).0 p) [
    | inl (k, small, at) ↦ absurd (let no : length none ≡ 0 = ap length empty in omega arith)
    | inr q ↦ q
  ],
  λ q. (all x).1 (inr q),
)

both : {A B C : Type 0} → A ↔ B → B ↔ C → A ↔ C
both f g = (λ a. g.0 (f.0 a), λ c. f.1 (g.1 c))

pub are_uses_of : (P : Tables) (deeds : List Deed) (no_needs : List ℕ) (no_told : List Told)
    (needs : Vec ℕ Global) (told : Vec Told Global) → no_needs ≡ [] → no_told ≡ []
    → ((e : ℕ) → Contains needs.items e ↔ (Contains no_needs e ⊎ HoldsOfOne NeedsSo deeds e))
    → ((t : Told) → Contains told.items t ↔ (Contains no_told t ⊎ HoldsOfOne (IsToldOf P) deeds t))
    → AreUsesOf P deeds (record { needs = needs; told = told })
are_uses_of P deeds no_needs no_told needs told empty bare need tell = record {
  needs = from_none no_needs needs.items (HoldsOfOne NeedsSo deeds) empty need;
  told = from_none no_told told.items (HoldsOfOne (IsToldOf P) deeds) bare tell;
}

pub are_body_uses : (P : Tables) (m : DeclaredMember) (deeds : List Deed) (uses : BodyUses)
    → deeds ≡ deeds_in P m.class m.index → AreUsesOf P deeds uses → AreBodyUses P m uses
are_body_uses P m deeds uses are so = record {
  needs = λ e. both (so.needs e)
      (subst (λ (l : List Deed). HoldsOfOne NeedsSo l e ↔ Needs P m.class m.index e) (sym are)
      (needs_by P m.class m.index e));
  told = λ t. both (so.told t)
      (subst (λ (l : List Deed). HoldsOfOne (IsToldOf P) l t ↔ IsToldIn P m.class m.index t) (sym are)
      (told_by P m.class m.index t));
}

-- ---- of all methods

module _ (P : Tables) (methods : List DeclaredMember) where
  at_end : (xs : List BodyUses) (x y : BodyUses) (n : ℕ) → slice_get (xs ++ x ∷ []) n ≡ Some y
      → (slice_get xs n ≡ Some y) ⊎ ((n ≡ length xs) × (x ≡ y))
  at_end xs x y n at = push_cases xs x y n at

  pub bodies_more : (n : ℕ) (old new : List BodyUses) → length old ≡ n → AreAllBodyUses P methods old
      → AddsBody P methods n old new → AreAllBodyUses P methods new
  bodies_more n old new count all (m, b, at, is, uses) k x y here there =
      elim (at_end old b y k (subst (λ (l : List BodyUses). slice_get l k ≡ Some y) is there)) [
        | inl was ↦ all k x y here was
        | inr (end, same) ↦ (let two : Some m ≡ Some x =
            sym at ∙ ap (slice_get methods) (sym (end ∙ count)) ∙ here in
            let member : m ≡ x = cc in
            subst (λ (z : DeclaredMember). AreBodyUses P z y) member
            (subst (λ (z : BodyUses). AreBodyUses P m z) same uses))
      ]

  pub bodies_count : (n : ℕ) (old new : List BodyUses) → length old ≡ n → AddsBody P methods n old new
      → length new ≡ n + 1
  bodies_count n old new count (m, b, at, is, uses) =
      let e : length new ≡ length (old ++ b ∷ []) = ap length is in
      let l = length_push old b in omega arith
