use Rattle.std.proofs.Common.{drop, arith}
use Rattle.std.proofs.lemmas.List.{length-drop}
use Rattle.ber_core.proofs.FieldNested.{nothing}
use Rattle.text_core.proofs.short.ShortText.clear.Goals as goal

pub returns : goal.returns
returns c = let all = c.self.inside.octets in nothing (drop 160 all) (omega (arith, length-drop 160 all, c.self.invariant))
