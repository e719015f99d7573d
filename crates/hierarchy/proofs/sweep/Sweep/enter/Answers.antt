use Rattle.std.proofs.Common.{inl, inr, refl}
use Rattle.hierarchy.specs.steps.Reaches.{reaches_of}
use Rattle.hierarchy.specs.steps.Sweeps.{came, own_in}
use Rattle.hierarchy.proofs.ReachesLemmas.{told_at_end}
use Rattle.hierarchy.proofs.SweepsLemmas.{tells_next}
use Rattle.hierarchy.proofs.sweep.Sweep.enter.Goals as goal

pub note_class-requires-clause-own : goal.note_class-requires-clause-own
note_class-requires-clause-own c = inl refl

pub leave-requires-clause-behind : goal.leave-requires-clause-behind
leave-requires-clause-behind c = record {
  family = c.requires.behind.family;
  comes = c.in_ok-note_class.ensures.notes.comes;
  may = c.requires.behind.may;
}

pub returns-clause-tell : goal.returns-clause-tell
returns-clause-tell c = λ k name are.
    let s = c.args.self.now in
    let family = s.family.now in
    let own = own_in s name in
    let class = c.args.class in
    let classes = came s c.args.place in
    let row = reaches_of c.leave.new.rows k in
    let left = c.in_ok-leave.ensures in
    let told = left.notes.comes.tell k name are in
    let at_end = told_at_end family own classes class row c.args.place c.requires.behind.comes.stands.count told in
    elim (c.in_ok-note_class.ensures.noted name) [
      | inl noted ↦ at_end (left.notes.keeps k (noted k are))
      | inr none ↦ elim (left.left name) [
        | inl noted ↦ at_end (noted k are)
        | inr pass ↦ elim told [
          | inl alone ↦ tells_next family own classes c.args.before class row c.requires.last c.requires.behind.may
              none pass alone
          | inr alone ↦ alone
        ]
      ]
    ]
