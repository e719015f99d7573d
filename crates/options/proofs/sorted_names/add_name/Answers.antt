use Rattle.std.proofs.Common.{refl, ap, ◌∙◌}
use Rattle.options.specs.steps.Names.{ended}
use Rattle.options.proofs.sorted_names.add_name.Goals as goal

pub returns : goal.returns
returns c = record {
  added = record { bytes = c.in_ok-bytes.bytes; class = c.args.number };
  new_is = c.in_ok-push.ensures.items;
  bytes = c.in_ok-bytes.ensures ∙ ap ended c.name_of.ensures.value;
  number = refl;
}
