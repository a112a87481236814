use Rattle.std.proofs.Common.{◌≡◌, ◌++◌, length, take}
use Rattle.list_core.specs.Cuts.{cut_at}
use Rattle.engine_core.specs.Dated.{lines_as}
use Rattle.engine_core.proofs.dated.put_marked.Given as goal

abbrev pub invariant-lines : goal.invariant-lines
invariant-lines g l = record {
  front : take (length l.initial.out.items) l.out.items ≡ l.initial.out.items;
  text : l.out.items ++ lines_as (λ line. l.mark ++ line) (cut_at 10 l.others) ≡ l.initial.out.items ++ lines_as (λ line. l.mark ++ line) (cut_at 10 l.text);
}

abbrev pub decreases-lines : goal.decreases-lines
decreases-lines g l = length (cut_at 10 l.others)
