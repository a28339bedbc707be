use Rattle.std.proofs.Common.{refl, length-set}
use lib.Seq.{map-set, map-set_same}
use Rattle.chains.proofs.board.Board.rewrite.Goals as goal

pub returns : goal.returns
returns g c =
    record {
      many = length-set c.args.self.now.slots.now c.args.place _;
      links = map-set_same (λ s. s.next) c.args.self.now.slots.now c.args.place _ _ refl;
      items = map-set (λ s. s.item) c.args.self.now.slots.now c.args.place _;
      heads = refl;
      spare = refl;
      count = refl;
    }
