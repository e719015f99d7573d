use Rattle.std.proofs.Common.{ℕ, ◌++◌, Option, sym, subst}
use Rattle.hierarchy.specs.steps.Defaults.{AreFound, Among, HasMethod, classes_of}
use Rattle.hierarchy.specs.steps.Reaches.{class_noted}
use Rattle.hierarchy.specs.declared.member.DeclaredMember.{DeclaredMember}
use Rattle.hierarchy.proofs.DefaultsLemmas.{one_more}
use Rattle.hierarchy.proofs.hierarchy.Hierarchy.with_candidate.Goals as goal

pub returns-in-Some : goal.returns-in-Some
returns-in-Some c = λ name asked is are.
    let Is : ℕ → ℕ → Type 0 = Among (HasMethod c.args.self.now.family name) (classes_of c.args.above) in
    subst (λ (o : Option DeclaredMember). AreFound Is (asked ++ class_noted o) c.and.result) (sym c.in-Some.is)
    (rw c.and.ensures (one_more Is asked c.in-Some.member.class c.args.found c.candidate.result
    (c.candidate.ensures name is) are))
