-- `runs::run::block_run` meets its contract: what is kept. Assumes nothing.
use Rattle.runs.specs.Runs.{in_one_block}
use Rattle.runs.proofs.run.block_run.Given as goal

abbrev pub ghost-marked_run : goal.ghost-marked_run
ghost-marked_run a = in_one_block a.keeps.0 a.keeps.1 a.keeps.2
