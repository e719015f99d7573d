use Rattle.use_graph.specs.declared.mark.Mark.TheVariants as marks
use Rattle.explain.proofs.marks.shown_by.Goals as goal

pub shown_mark-requires-clause-told : goal.shown_mark-requires-clause-told
shown_mark-requires-clause-told c = (marks.Prints, rw c.deref.ensures.value c.requires.told.prints)

pub shown_mark-requires-2-clause-told : goal.shown_mark-requires-2-clause-told
shown_mark-requires-2-clause-told c = (marks.Throws, rw c.deref-2.ensures.value c.requires.told.throws)

pub shown_mark-requires-3-clause-told : goal.shown_mark-requires-3-clause-told
shown_mark-requires-3-clause-told c = (marks.Monitors, rw c.deref-3.ensures.value c.requires.told.monitors)

pub shown_mark-requires-4-clause-told : goal.shown_mark-requires-4-clause-told
shown_mark-requires-4-clause-told c = (marks.ForeignWrite, rw c.deref-4.ensures.value c.requires.told.foreign_write)

pub shown_mark-requires-5-clause-told : goal.shown_mark-requires-5-clause-told
shown_mark-requires-5-clause-told c = (marks.ForeignRead, rw c.deref-5.ensures.value c.requires.told.foreign_read)

pub shown_mark-requires-6-clause-told : goal.shown_mark-requires-6-clause-told
shown_mark-requires-6-clause-told c = (marks.Unsupported, rw c.deref-6.ensures.value c.requires.told.unsupported)

pub shown_mark-requires-7-clause-told : goal.shown_mark-requires-7-clause-told
shown_mark-requires-7-clause-told c = (marks.Missing, rw c.deref-7.ensures.value c.requires.told.missing)

pub returns : goal.returns
returns c = record {
  prints = c.in_ok-shown_mark.ensures marks.Prints (rw c.deref.ensures.value c.requires.told.prints);
  throws = c.in_ok-shown_mark-2.ensures marks.Throws (rw c.deref-2.ensures.value c.requires.told.throws);
  monitors = c.in_ok-shown_mark-3.ensures marks.Monitors (rw c.deref-3.ensures.value c.requires.told.monitors);
  foreign_write = c.in_ok-shown_mark-4.ensures marks.ForeignWrite
      (rw c.deref-4.ensures.value c.requires.told.foreign_write);
  foreign_read = c.in_ok-shown_mark-5.ensures marks.ForeignRead
      (rw c.deref-5.ensures.value c.requires.told.foreign_read);
  unsupported = c.in_ok-shown_mark-6.ensures marks.Unsupported (rw c.deref-6.ensures.value c.requires.told.unsupported);
  missing = c.in_ok-shown_mark-7.ensures marks.Missing (rw c.deref-7.ensures.value c.requires.told.missing);
}
