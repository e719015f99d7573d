use Rattle.classfile.proofs.ClassLawful.{exactly_one}
use Rattle.classfile.proofs.class_file.text_or_fault.Goals as goal

pub returns : goal.returns
returns c = exactly_one
