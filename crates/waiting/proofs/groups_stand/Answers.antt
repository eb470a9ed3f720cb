use Rattle.waiting.proofs.Grouping as grouping
use Rattle.waiting.proofs.groups_stand.Goals as goal

pub returns : goal.returns
returns c =
    record {
      adds = grouping.adds;
      proper = grouping.adds_proper;
      keeps = grouping.keeps;
      kept = grouping.keeps_proper;
      totals = grouping.totals;
      parts = grouping.parts;
      places = grouping.places;
      counts = grouping.counts;
      finds = grouping.finds;
    }
