use Rattle.thread_runner.proofs.tools.Tools.run_slices.Given as goal

abbrev pub decreases-slices : goal.decreases-slices
decreases-slices g l = l.left
