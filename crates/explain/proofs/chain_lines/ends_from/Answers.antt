use Rattle.explain.proofs.chain_lines.ends_from.Goals as goal

pub returns : goal.returns
returns c = record {
  last = c.root_of-last.result;
  leads = c.root_of-last.ensures c.args.verdicts.now c.requires;
  is = c.in_ok-text.ensures;
}
