use Rattle.std.proofs.Common.{◌≡◌, ◌<◌, ℕ, Some, slice_get}
use Rattle.classfile.specs.ClassFile.{ClassFile}
use Rattle.classfile.specs.declared.member.Member.{Member}
use Rattle.hierarchy.specs.steps.PoolTexts.{AreTextNumbers}
use Rattle.hierarchy.specs.steps.Sweeps.{IsNoted, NotesMore}
use Rattle.hierarchy.proofs.SweepsLemmas.{named_by}
use Rattle.hierarchy.proofs.sweep.Sweep.note_class.Given as goal

-- the members that came are noted
abbrev pub invariant-loop-index : goal.invariant-loop-index
invariant-loop-index l = record {
  notes : NotesMore l.self l.class l.place l.initial.rows l.rows;
  noted : (f : ClassFile) (i : ℕ) (m : Member) → AreTextNumbers l.self.table.now.texts f l.pool → i < l.index
      → slice_get l.members i ≡ Some m → IsNoted l.self l.place l.rows (named_by f m);
}
