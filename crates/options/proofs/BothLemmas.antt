-- Classes that are forced and demanded.
use Rattle.std.proofs.Common.{◌≡◌, ℕ, ◌<◌, ◌⊎◌, inl, inr, Bool, List}
use Rattle.std.specs.List.{All}
use Rattle.std.specs.Prelude.{Result, Ok, Err, IfErr, OnOk}
use Rattle.std.proofs.lemmas.Result.{IfErr-weaker}
use Rattle.loading.specs.Families.{Family}
use Rattle.options.specs.Classes.{AreClasses, IsDemanded}
use Rattle.options.specs.Faults.{IsBoth, IsKnown, IsOfBoth, both}
use Rattle.options.specs.Faults.{PatternsFail, DemandFails, unmatched, overlapping}
use Rattle.options.specs.steps.Flags.{IsFlagged}
use Rattle.options.specs.declared.fault.OptionFault.{OptionFault}
use Rattle.options.specs.declared.fault.OptionFault.TheVariants.{Memory}

-- ---- the least class that is both

abbrev pub NoneBelow : List Bool → List Bool → ℕ → Type 0
NoneBelow flags forced n = (c : ℕ) → c < n → ¬ IsBoth (IsFlagged flags) forced c

-- ---- of one kind, and so of another

module _ (flags forced : List Bool) (P : ℕ → Type 0) (same : AreClasses flags P) where
  pub of_both_too : (family : Family) (fault : OptionFault) → IsOfBoth family (IsFlagged flags) forced fault
      → IsOfBoth family P forced fault
  of_both_too family _ (both {class} {name} least is) = both (record {
    here = ((same class).0 least.here.0, least.here.1);
    before = λ c small both-are. least.before c small ((same c).1 both-are.0, both-are.1);
  }) is

-- ---- why nothing is demanded

pub unmatched_fails : (family : Family) (patterns : List (List ℕ)) (forced : List Bool) (fault : OptionFault)
    → (fault ≡ Memory) ⊎ PatternsFail family patterns fault
    → (fault ≡ Memory) ⊎ DemandFails family patterns forced fault
unmatched_fails family patterns forced fault (inl memory) = inl memory
unmatched_fails family patterns forced fault (inr wrong) = inr (unmatched wrong)

pub overlapping_fails : (family : Family) (patterns : List (List ℕ)) (flags forced : List Bool) (fault : OptionFault)
    → All (IsKnown family) patterns → AreClasses flags (IsDemanded family patterns)
    → (fault ≡ Memory) ⊎ IsOfBoth family (IsFlagged flags) forced fault
    → (fault ≡ Memory) ⊎ DemandFails family patterns forced fault
overlapping_fails family patterns flags forced fault known are (inl memory) = inl memory
overlapping_fails family patterns flags forced fault known are (inr wrong) =
    inr (overlapping known (of_both_too flags forced (IsDemanded family patterns) are family fault wrong))

pub demand_fails : (family : Family) (patterns : List (List ℕ)) (flags forced : List Bool)
    (r : Result (List Bool) OptionFault)
    → All (IsKnown family) patterns → AreClasses flags (IsDemanded family patterns)
    → IfErr r (λ fault. (fault ≡ Memory) ⊎ IsOfBoth family (IsFlagged flags) forced fault)
    → IfErr r (λ fault. (fault ≡ Memory) ⊎ DemandFails family patterns forced fault)
demand_fails family patterns flags forced r known are =
    IfErr-weaker r _ _ (λ fault. overlapping_fails family patterns flags forced fault known are)

pub on_ok : {T E : Type 0} (r : Result T E) (P : Type 0) → P → OnOk r P
on_ok (Ok x) P holds = holds
on_ok (Err e) P holds = tt
