use Rattle.std.specs.Int.RustNames.{int_div}
use Rattle.std.proofs.Common.{sym, subst}
use Rattle.std.proofs.lemmas.Int.{int_wrap_fits}
use Rattle.pp_word.specs.Word.{word_div, word_rem}
use Rattle.pp_word.specs.Division.{IsQuotient}
use Rattle.pp_word.proofs.Quotients.{IsQuotient-int_div, IsRemainder-int_rem, fits_quotient, fits_remainder}
use Rattle.pp_word.proofs.Quotients.{least_quotient, least_remainder, same_quotient, same_remainder}
use Rattle.pp_word.proofs.Wraps.{WrapsTo-int_wrap}
use Rattle.pp_word.proofs.division.division_law.Goals as goal

pub returns-clause-quotient : goal.returns-clause-quotient
unfolding word_div
returns-clause-quotient c = λ w n d h. (int_div n d, IsQuotient-int_div n d h, WrapsTo-int_wrap w (int_div n d))

pub returns-clause-remainder : goal.returns-clause-remainder
unfolding word_rem
returns-clause-remainder c = λ w n d h. IsRemainder-int_rem n d h

pub returns-clause-remainder_fits : goal.returns-clause-remainder_fits
unfolding word_rem
returns-clause-remainder_fits c = λ w n d f. fits_remainder w n d f

pub returns-clause-least : goal.returns-clause-least
unfolding word_div
returns-clause-least c = least_quotient

pub returns-clause-least_leaves : goal.returns-clause-least_leaves
unfolding word_rem
returns-clause-least_leaves c = least_remainder

pub returns-clause-exact : goal.returns-clause-exact
unfolding word_div
returns-clause-exact c =
    λ w n d h f s. subst (IsQuotient n d) (sym (int_wrap_fits w (int_div n d) (fits_quotient w n d f s)))
    (IsQuotient-int_div n d h)

pub returns-clause-only_quotient : goal.returns-clause-only_quotient
returns-clause-only_quotient c = same_quotient

pub returns-clause-only_remainder : goal.returns-clause-only_remainder
returns-clause-only_remainder c = same_remainder
