use Rattle.pp_answers.specs.Claims.{InvalidFails, OpenIsSearched, ValidIsGood}
use Rattle.pp_answers.proofs.Claimed.{invalid_means_failed, one_line_each, open_means_searched, valid_means_good}
use Rattle.pp_answers.proofs.Made.{made_read_back}
use Rattle.pp_answers.proofs.Statuses.{one_status}
use Rattle.pp_answers.proofs.Texts.{text_read_back}
use Rattle.pureproof.proofs.Ending.{comes, each_printed, verifies}
use Rattle.pureproof.proofs.Made.{reads_made}
use Rattle.pureproof.proofs.Reading.{reads_back}
use Rattle.pureproof.proofs.top.pureproof.Goals as goal

pub returns-clause-comes : goal.returns-clause-comes
returns-clause-comes g c = comes one_status _ c.carry_out.result c.carry_out.ensures.ends

pub returns-clause-reports : goal.returns-clause-reports
returns-clause-reports g c =
    verifies one_line_each made_read_back _ c.carry_out.result c.carry_out.ensures.ends

pub returns-clause-valid : goal.returns-clause-valid
returns-clause-valid g c =
    each_printed one_line_each (λ limits. ValidIsGood) valid_means_good _ c.carry_out.result
    c.carry_out.ensures.ends

pub returns-clause-invalid : goal.returns-clause-invalid
returns-clause-invalid g c =
    each_printed one_line_each InvalidFails invalid_means_failed _ c.carry_out.result
    c.carry_out.ensures.ends

pub returns-clause-open_at : goal.returns-clause-open_at
returns-clause-open_at g c =
    each_printed one_line_each OpenIsSearched open_means_searched _ c.carry_out.result
    c.carry_out.ensures.ends

pub returns-clause-read_back : goal.returns-clause-read_back
returns-clause-read_back g c =
    reads_back text_read_back (λ limits. ValidIsGood) _ c.carry_out.result
    (each_printed one_line_each (λ limits. ValidIsGood) valid_means_good _ c.carry_out.result
    c.carry_out.ensures.ends)

pub returns-clause-made : goal.returns-clause-made
returns-clause-made g c = reads_made made_read_back _ c.carry_out.result c.carry_out.ensures.ends
