use Rattle.hierarchy.specs.MemberLookup.{IsDefault}
use Rattle.hierarchy.proofs.DefaultsLemmas.{none_yet}
use Rattle.hierarchy.proofs.answers.Answer.unknown.Goals as goal

pub returns-clause-unknown : goal.returns-clause-unknown
returns-clause-unknown c = λ h w declared small whole. record {
  within = small;
  whole = whole;
  tells = λ name numbers. record {
    first = λ m is. absurd cc;
    none = λ is. absurd cc;
    defaults = λ kind lacks. none_yet (IsDefault h.family name c.args.asked.now.class);
  };
}
