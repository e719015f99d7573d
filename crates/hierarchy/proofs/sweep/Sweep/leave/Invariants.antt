use Rattle.std.proofs.Common.{Option, ◌⊎◌}
use Rattle.built_in.specs.Keys.{NameAndType}
use Rattle.hierarchy.specs.steps.Reaches.{NearestFrom}
use Rattle.hierarchy.specs.steps.Sweeps.{IsNoted, NotesMore, own_in}
use Rattle.hierarchy.specs.declared.member.DeclaredMember.{DeclaredMember}
use Rattle.hierarchy.proofs.SweepsLemmas.{StandsBelow, height_from}
use Rattle.hierarchy.proofs.sweep.Sweep.leave.Given as goal

-- the members of the classes that were left are noted
abbrev pub invariant-loop-at : goal.invariant-loop-at
invariant-loop-at l = record {
  notes : NotesMore l.self l.class l.place l.initial.rows l.rows;
  stands : StandsBelow l.self.family.now l.class l.at;
  left : (name : NameAndType) → IsNoted l.self l.place l.rows name
      ⊎ ((r : Option DeclaredMember) → NearestFrom l.self.family.now (own_in l.self name) l.fn.before r
      → NearestFrom l.self.family.now (own_in l.self name) l.at r);
}

abbrev pub decreases-loop-at : goal.decreases-loop-at
decreases-loop-at l = height_from l.self.family.now l.at
