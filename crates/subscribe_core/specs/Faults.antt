-- Why there is no subscriber of some blocks.
use Rattle.std.specs.Prelude.{◌≡◌, List, []}
use Rattle.block_core.specs.declared.block.Block.{Block}
use Rattle.subscribe_core.specs.declared.fault.SubscribeFault.{SubscribeFault}
use Rattle.subscribe_core.specs.declared.fault.SubscribeFault.TheVariants.{SameBlockTwice, Memory}
use Rattle.subscribe_core.specs.Apart.{AreApart, IsFirstTwice}

-- the first block given twice; memory may be wanted only where there is none, and where there are blocks
abbrev pub IsFaultOf : {A : Type 0} → List (Block A) → SubscribeFault → Type 0
IsFaultOf blocks (SameBlockTwice i) = IsFirstTwice blocks i
IsFaultOf blocks (Memory e) = AreApart blocks × (blocks ≡ [] → ⊥)
