-- What a first reading finds of its input, and how the lines of blocks may fail to be written.
use Rattle.std.proofs.Common.{ℕ, List, Option}
use Rattle.std.specs.Global.{Global}
use Rattle.block_core.specs.declared.block.Block.{Block}
use Rattle.list_core.specs.declared.device.InputEnd.{InputEnd}
use Rattle.list_core.specs.declared.event.Event.{Event}
use Rattle.list_core.specs.ReadItems.{AnswerOf}
use Rattle.engine_core.specs.Input.{GaveThen, Input, IsRead, Reader}
use Rattle.engine_core.proofs.InputRuns.{GivenSo}
use Rattle.inventory_engine.specs.declared.listed_block.ListedBlock.{ListedBlock}
use Rattle.inventory_engine.specs.ListedBlocks.{FindsOf, FindsOver}

-- what is found over a reader is found of its input
pub finds_of : {I C F : Type 0} (reader : Reader I (Event Global) C F) (input : Input (Event Global) C F) (left : I → Option (List ℕ)) (source : I → InputEnd) (start end : I) (listed : List (ListedBlock Global)) (blocks : List (Block Global))
    → ((items : List (ℕ × Event Global)) (answer : AnswerOf (Event Global) F) → GaveThen reader start end items answer → GivenSo (left start) (left end) (λ given. IsRead input (source end) given items answer))
    → FindsOver reader start end listed blocks → GivenSo (left start) (left end) (λ given. FindsOf input (source end) given listed blocks)
finds_of reader input left source start end listed blocks reads f =
    let r = reads f.items f.answer f.gave in
    (r.0, r.1, record { items = f.items; answer = f.answer; read_so = r.2; ends = f.ends; found = f.found })
