-- The order in which checks are worked on. Source: own.
use Rattle.std.specs.Prelude.{ℕ, List, None, Option, Some, bytes_eq, codes, if◌then◌else◌}
use Rattle.pp_words.specs.declared.order.Order.{Order}
use Rattle.pp_words.specs.declared.order.Order.TheVariants.{Back, One, Turns}

-- the order that is written
abbrev pub order_named : List ℕ → Option Order
order_named name =
    if bytes_eq name (codes "one") then Some One
    else if bytes_eq name (codes "turns") then Some Turns
    else if bytes_eq name (codes "back") then Some Back
    else None

-- none is one check after the other
abbrev pub order_of : Option (List ℕ) → Option Order
order_of None = Some One
order_of (Some name) = order_named name
