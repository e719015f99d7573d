use Rattle.thread_runner.proofs.desk.Desk.run_last.Given as goal

abbrev pub decreases-slices : goal.decreases-slices
decreases-slices g l = l.left
