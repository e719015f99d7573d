-- Regions stay whole where a whole one is put among them.
use Rattle.std.proofs.Common.{◌≡◌, ◌≢◌, ◌∙◌, inl, inr, ℕ, ◌==◌, List, Option, Some, None, option_map, refl, sym, ap}
use Rattle.std.proofs.Common.{subst, eqb-true, eq-eqb}
use Rattle.std.proofs.lemmas.Bool.{cases_eq}
use Rattle.vm_state.specs.SharedState.{Region}
use Rattle.vm_state.proofs.ListLemmas.{tested}
use Rattle.semantics.proofs.TestsLemmas.{from_some}
use Rattle.program.specs.Tables.{Tables}
use Rattle.region_shape.specs.Counts.{NamesObjects}
use Rattle.region_shape.specs.Shapes.{HasShape}
use Rattle.region_shape.specs.Texts.{HasTexts}
use Rattle.region_shape.specs.Wholes.{AreWhole}
use Rattle.region_shape.proofs.NamesLemmas.{names_wider}
use Rattle.region_shape.specs.declared.regions.Region.{Region as Held}
use Rattle.region_shape.specs.Regions.{environment_of, region_in, region_of, with_region}
use Rattle.evaluator.specs.Settleable.{IsWhole, WholeStayWhole}

module _ (P : Tables) (before after : List (Option Held)) (c budget : ℕ) (r : Held)
    (fits : AreWhole P (environment_of before)) (none : region_in before c ≡ None)
    (is : IsWhole P (environment_of before) c budget (region_of r))
    (put : region_in after ≡ with_region (region_in before) c r) where
  here : region_in after c ≡ Some r
  here = ap (λ (held : ℕ → Option Held). held c) put ∙ rw (eq-eqb c c refl) refl

  others : (d : ℕ) → d ≢ c → region_in after d ≡ region_in before d
  others d other =
      ap (λ (held : ℕ → Option Held). held d) put
      ∙ elim (tested (d == c)) [ inl same ↦ absurd (other (eqb-true d c same)) | inr apart ↦ rw apart refl ]

  wider : (d : ℕ) (q : Region) → environment_of before d ≡ Some q → environment_of after d ≡ Some q
  wider d q at = elim (cases_eq d c) [
    | inl same ↦
        absurd (let gone : environment_of before d ≡ None =
        ap (option_map region_of) (ap (region_in before) same ∙ none) in
        let clash : Some q ≡ None = sym at ∙ gone in cc)
    | inr other ↦ ap (option_map region_of) (others d other) ∙ at
  ]

  each : (Q : ℕ → Region → Type 0) → Q c (region_of r)
      → ((d : ℕ) (q : Region) → environment_of before d ≡ Some q → Q d q) → (d : ℕ) (q : Region)
      → environment_of after d ≡ Some q → Q d q
  each Q own old d q at = elim (cases_eq d c) [
    | inl same ↦
        let there : environment_of after d ≡ Some (region_of r) =
        ap (option_map region_of) (ap (region_in after) same ∙ here) in
        let one : region_of r ≡ q = from_some (sym there ∙ at) in
        subst (λ (x : Region). Q d x) one (subst (λ (e : ℕ). Q e (region_of r)) (sym same) own)
    | inr other ↦ old d q (sym (ap (option_map region_of) (others d other)) ∙ at)
  ]

  whole : AreWhole P (environment_of after)
  whole = record {
    shape = each (HasShape P) is.shape fits.shape;
    closed =
        each (NamesObjects (environment_of after))
        (names_wider (environment_of before) (environment_of after) c (region_of r) wider is.names)
        (λ d q at. names_wider (environment_of before) (environment_of after) d q wider (fits.closed d q at));
    texts = each (λ d. HasTexts P) is.texts fits.texts;
  }

pub whole_stay_whole_lem : WholeStayWhole
whole_stay_whole_lem P before after c budget r fits none is put = whole P before after c budget r fits none is put
