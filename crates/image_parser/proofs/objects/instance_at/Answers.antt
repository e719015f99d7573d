use Rattle.image_parser.proofs.objects.instance_at.Goals as goal

pub returns : goal.returns
returns c = rw (c.in_ok-slots.ensures, c.as_slice.ensures.value) c.in_ok-values.ensures
