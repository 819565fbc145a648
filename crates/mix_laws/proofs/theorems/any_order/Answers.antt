use Rattle.mix_laws.proofs.InverseOrders.{least-where_in_order}
use Rattle.mix_laws.proofs.UtilityOrders.{utility-in_order}
use Rattle.mix_laws.proofs.OtherOrders.{least-in_order}
use Rattle.mix_laws.proofs.theorems.any_order.Goals as goal

pub returns : goal.returns
returns c = record {
  prices = λ utilities order ordered supply reserve prices are. least-in_order utilities order ordered supply reserve prices are;
  back = λ utilities order ordered supply reserve prices are. least-where_in_order utilities order ordered supply reserve prices are;
  utility = λ utilities order ordered j h. utility-in_order utilities order ordered j h;
}
