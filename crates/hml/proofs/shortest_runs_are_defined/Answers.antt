use Rattle.hml.proofs.shortest_runs_are_defined.Goals as goal
use Rattle.hml.proofs.Reaching.{reached_or_never, bisimilar_reach_alike}
use Rattle.hml.proofs.Nearing.{leads_exist, leads_nearest, leads_are_one}

pub returns : goal.returns
returns c = record {
  reached = λ m closed f. reached_or_never m f closed;
  exists = leads_exist;
  one = λ m f s p q x y. (leads_nearest m f x, leads_are_one m f x q y);
  alike = bisimilar_reach_alike;
}
