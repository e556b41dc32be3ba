use Rattle.pp_check_places.proofs.Law.{places_tell_checks}
use Rattle.pp_check_places.proofs.places_tell_checks.Goals as goal

pub returns : goal.returns
returns c = places_tell_checks
