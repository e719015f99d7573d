-- Native and synchronized methods among those that calls may run.
use Rattle.std.proofs.Common.{◌≡◌, ◌↔◌, ◌⊎◌, ℕ, ◌<◌, Bool, true, false, List, [], length, Option, Some, slice_get}
use Rattle.std.proofs.Common.{slice_set, refl, sym, ap, subst, ◌∙◌, inl, inr, arith, IsTrue, length-set}
use Rattle.std.specs.List.{Contains}
use Rattle.std.proofs.lemmas.Option.{slice_get_within}
use Rattle.hierarchy.proofs.RowLemmas.{set_here, set_else}
use Rattle.hierarchy.specs.declared.member.DeclaredMember.{DeclaredMember}
use Rattle.hierarchy.specs.declared.member.Method.{Method}
use Rattle.hierarchy.specs.Selectable.{IsNamedLike}
use Rattle.program.specs.Tables.{Tables}
use Rattle.use_graph.specs.declared.callee.Callee.TheVariants as callees
use Rattle.use_graph.specs.declared.code.Deed.{Deed}
use Rattle.use_graph.specs.declared.body.Told.{Told}
use Rattle.use_graph.specs.declared.feature.Feature.TheVariants as features
use Rattle.use_graph.specs.Code.{MayRunFor}
use Rattle.use_graph.specs.Uses.{IsLeftOut}
use Rattle.use_graph.specs.steps.Deeds.{MayRunLeftOut, IsToldOf}
use Rattle.use_graph.specs.steps.LeftOut.{HasLeftOut, SelectsLeftOut, AreKnown}
use Rattle.use_graph.proofs.EdgesLemmas.{AreListed}

module _ (P : Tables) where
  -- what is listed as like a method
  pub listed_left_out : (z : DeclaredMember) (none like : List DeclaredMember) (b : Bool) → none ≡ []
      → AreListed P.family z none like → IsTrue b ↔ HasLeftOut P like → IsTrue b ↔ SelectsLeftOut P z
  listed_left_out z none like b empty listed is = (
    λ t. (let (y, among, left) = is.0 t in (
      y.class,
      y.index,
      elim ((listed y.class y.index).0 among) [
        | inl (k, small, at) ↦ absurd (let no : length none ≡ 0 = ap length empty in omega arith)
        | inr named ↦ named
      ],
      left,
    )),
    λ (e, j, named, left). is.1 (record { class = e; index = j }, (listed e j).1 (inr named), left),
  )

  known_of : (methods : List DeclaredMember) (known : List (Option Bool)) (n : ℕ) (z : DeclaredMember) (b : Bool)
      → AreKnown P methods known → n < length known → slice_get methods n ≡ Some z
      → (IsTrue b ↔ SelectsLeftOut P z) → (r : ℕ) (y : DeclaredMember) (so : Bool) → slice_get methods r ≡ Some y
      → slice_get (slice_set known n (Some b)) r ≡ Some (Some so) → (IsTrue so ↔ SelectsLeftOut P y)
  known_of methods known n z b are small at is r y so here there = by (decide r)
    where
      decide : (r : ℕ) → (n ≡ r) ⊎ (n ≡ r → ⊥)
      decide r = grind arith

      by : (n ≡ r) ⊎ (n ≡ r → ⊥) → (IsTrue so ↔ SelectsLeftOut P y)
      by (inl same) =
          let one : Some (Some b) ≡ Some (Some so) =
          sym (set_here known n (Some b) small) ∙ ap (slice_get (slice_set known n (Some b))) same ∙ there in
          let two : Some z ≡ Some y = sym at ∙ ap (slice_get methods) same ∙ here in
          let value : b ≡ so = cc in
          let member : z ≡ y = cc in
          subst (λ (v : Bool). IsTrue v ↔ SelectsLeftOut P y) value
          (subst (λ (m : DeclaredMember). IsTrue b ↔ SelectsLeftOut P m) member is)
      by (inr other) = are.each r y so here (sym (set_else known n r (Some b) other) ∙ there)

  -- what was found, and of one more method
  pub known_more : (methods : List DeclaredMember) (known : List (Option Bool)) (n : ℕ) (z : DeclaredMember) (b : Bool)
      → AreKnown P methods known → slice_get methods n ≡ Some z → (IsTrue b ↔ SelectsLeftOut P z)
      → AreKnown P methods (slice_set known n (Some b))
  known_more methods known n z b are at is = record {
    len = length-set known n (Some b) ∙ are.len;
    each = known_of methods known n z b are
        (let low = slice_get_within methods n z at in omega (arith, are.len)) at is;
  }

  -- ---- what is selected

  pub nothing_left_out : (m : Method) → ((e j : ℕ) → MayRunFor P (callees.Selected m) e j → ⊥)
      → IsTrue false ↔ MayRunLeftOut P (callees.Selected m)
  nothing_left_out m none = (λ t. absurd (let h : false ≡ true = t in cc), λ (e, j, may, left). absurd (none e j may))

  pub alone_left_out : (m : Method) (x : DeclaredMember) (b : Bool)
      → ((e j : ℕ) → MayRunFor P (callees.Selected m) e j ↔ ((x.class ≡ e) × (x.index ≡ j)))
      → IsTrue b ↔ IsLeftOut P x.class x.index → IsTrue b ↔ MayRunLeftOut P (callees.Selected m)
  alone_left_out m x b says is = (
    λ t. (x.class, x.index, (says x.class x.index).1 (refl, refl), is.0 t),
    λ (e, j, may, left). (let (class, index) = (says e j).0 may in
        is.1 (subst (λ (y : ℕ). IsLeftOut P x.class y) (sym index)
        (subst (λ (y : ℕ). IsLeftOut P y j) (sym class) left))),
  )

  pub named_left_out : (m : Method) (x : DeclaredMember) (b : Bool)
      → ((e j : ℕ) → MayRunFor P (callees.Selected m) e j ↔ IsNamedLike P.family x e j)
      → IsTrue b ↔ SelectsLeftOut P x → IsTrue b ↔ MayRunLeftOut P (callees.Selected m)
  named_left_out m x b says is = (
    λ t. (let (e, j, named, left) = is.0 t in (e, j, (says e j).1 named, left)),
    λ (e, j, may, left). is.1 (e, j, (says e j).0 may, left),
  )

  -- ---- what is told of an instruction

  pub told_both : (deed : Deed) (b : Bool) (old mid new : List Told) → IsTrue b ↔ MayRunLeftOut P deed.callee
      → ((t : Told) → Contains mid t ↔ (Contains old t ⊎ ((t.pc ≡ deed.pc) × (deed.feature ≡ Some t.feature))))
      → ((t : Told) → Contains new t
      ↔ (Contains mid t ⊎ ((t.pc ≡ deed.pc) × (t.feature ≡ features.LeftOut) × IsTrue b)))
      → (t : Told) → Contains new t ↔ (Contains old t ⊎ IsToldOf P deed t)
  told_both deed b old mid new is first then t = (
    λ p. elim ((then t).0 p) [
      | inl was ↦ elim ((first t).0 was) [
        | inl before ↦ inl before
        | inr (pc, feature) ↦ inr (pc, inl feature)
      ]
      | inr (pc, left, so) ↦ inr (pc, inr (left, is.0 so))
    ],
    λ p. elim p [
      | inl before ↦ (then t).1 (inl ((first t).1 (inl before)))
      | inr (pc, how) ↦ elim how [
        | inl feature ↦ (then t).1 (inl ((first t).1 (inr (pc, feature))))
        | inr (left, may) ↦ (then t).1 (inr (pc, left, is.1 may))
      ]
    ],
  )
