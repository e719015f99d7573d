use Rattle.std.proofs.lemmas.Bool.Decides.{Decides-at}
use Rattle.classfile.proofs.ScanLemmas.{method_decides}
use Rattle.classfile.proofs.descriptor.is_method_descriptor.Goals as goal

pub returns : goal.returns
returns c = Decides-at _ _ c.is_method.ensures (method_decides c.args.text.now)
