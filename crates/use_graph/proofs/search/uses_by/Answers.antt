use Rattle.use_graph.specs.declared.mark.Mark.TheVariants as marks
use Rattle.use_graph.proofs.SearchingLemmas.{are_methods_of, tells}
use Rattle.use_graph.proofs.search.uses_by.Goals as goal

pub returns : goal.returns
returns c =
    let P = c.args.program.now in
    let graph = c.args.graph.now in
    let reached = c.args.reached.now.items in
    let found = c.marks_of-marks.result in
    let has = tells P graph c.args.class reached c.requires.graph c.requires.reached in
    let is = c.marks_of-marks.ensures in record {
      methods = are_methods_of P graph c.args.class reached c.requires.graph c.requires.reached
          c.new-methods.result.items c.add_methods.new.methods.items c.new-methods.ensures.items
          c.in_ok-add_methods.ensures.all;
      once = c.in_ok-add_methods.ensures.once;
      classes = c.in_ok-classes.ensures.members;
      ascending = c.in_ok-classes.ensures.ascending;
      prints = has marks.Prints found.prints is.prints;
      throws = has marks.Throws found.throws is.throws;
      monitors = has marks.Monitors found.monitors is.monitors;
      foreign_write = has marks.ForeignWrite found.foreign_write is.foreign_write;
      foreign_read = has marks.ForeignRead found.foreign_read is.foreign_read;
      unsupported = has marks.Unsupported found.unsupported is.unsupported;
      missing = has marks.Missing found.missing is.missing;
    }
