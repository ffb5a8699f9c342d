-- `sotrugla::files::sotrugla_read_pgm` meets its contract: the reader's promise, in numbers. Assumes nothing.
use mathlib.Core.Path.{ap, ◌∙◌}
use Rattle.sotrugla.specs.Files.{pgm_read_of}
use Rattle.sotrugla.proofs.files.sotrugla_read_pgm.Goals as goal

pub returns : goal.returns
returns c = c.pgm_read_of.ensures ∙ ap pgm_read_of c.read.ensures
