-- The ends of chains, by the class at which each begins.
use Rattle.std.specs.Prelude.{◌≡◌, ℕ, List, Some, slice_get}
use Rattle.initializer_analysis.specs.declared.verdict.Verdict.{Verdict}
use Rattle.explain.specs.Chains.{Leads}

-- from each class a chain leads to what stands at its number
abbrev pub AreRoots : List Verdict → List ℕ → Type 0
AreRoots verdicts roots = (c e : ℕ) → slice_get roots c ≡ Some e → Leads verdicts c e
