-- The life of an Initial entry.
use Rattle.std.specs.Prelude.{Some, None, Option}
use Rattle.index.specs.declared.target.RouteDatagramTo.{RouteDatagramTo}
use Rattle.index.specs.declared.target.RouteDatagramTo.TheVariants.{Incoming, Connection}
use Rattle.index.specs.declared.target.InitialEvent.{InitialEvent}
use Rattle.index.specs.declared.target.InitialEvent.TheVariants.{Arrival, Accepted, Failed, Drained}

-- An arrival makes an entry where there is none; an accepted attempt's entry names its connection; a failed attempt and a drained
-- connection leave none.
abbrev pub entry_after : Option RouteDatagramTo → InitialEvent → Option RouteDatagramTo
entry_after None (Arrival slot) = Some (Incoming slot)
entry_after None (Accepted handle) = Some (Connection handle)
entry_after None Failed = None
entry_after None Drained = None
entry_after (Some (Incoming s)) (Arrival slot) = Some (Incoming s)
entry_after (Some (Incoming s)) (Accepted handle) = Some (Connection handle)
entry_after (Some (Incoming s)) Failed = None
entry_after (Some (Incoming s)) Drained = None
entry_after (Some (Connection h)) (Arrival slot) = Some (Connection h)
entry_after (Some (Connection h)) (Accepted handle) = Some (Connection handle)
entry_after (Some (Connection h)) Failed = None
entry_after (Some (Connection h)) Drained = None
