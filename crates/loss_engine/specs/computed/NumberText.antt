-- What is put together where findings and totals are written.
use Rattle.std.specs.Prelude.{ℕ, List, ◌++◌}
use Rattle.std.specs.Fmt.{decimal}
use Rattle.loss_engine.specs.declared.texts.number.Number.{Number}

-- a number behind its name
abbrev pub number_text : Number → List ℕ
number_text n = n.0.now ++ decimal n.1
