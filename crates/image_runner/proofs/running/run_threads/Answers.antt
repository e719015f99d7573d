use Rattle.image_runner.proofs.running.run_threads.Goals as goal

pub returns-in-Ok-clause-count : goal.returns-in-Ok-clause-count
returns-in-Ok-clause-count g c =
    (λ is. absurd (c.of_threads.ensures.count is), λ wrong. let told = c.in-Ok.ensures.count.1 wrong in cc)
