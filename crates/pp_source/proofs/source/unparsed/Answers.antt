use Rattle.std.proofs.Common.{subst}
use Rattle.pp_parse.specs.declared.fault.ParseFault.{ParseFault}
use Rattle.pp_parse.specs.Spelled.{StandsAtToken}
use Rattle.pp_source.proofs.Lines.{token_boundary, where_left_out, where_misspelt, where_too_deep}
use Rattle.pp_source.proofs.source.unparsed.Goals as goal

pub faulty-requires : goal.faulty-requires
faulty-requires c =
    token_boundary c.args.text.now c.args.tokens.now c.in-Syntax.at c.requires.spans
    (subst (λ (f : ParseFault). StandsAtToken f c.args.tokens.now) c.in-Syntax.is c.requires.at_token)

pub faulty-requires-in-TooDeep : goal.faulty-requires-in-TooDeep
faulty-requires-in-TooDeep c =
    token_boundary c.args.text.now c.args.tokens.now c.in-TooDeep.at c.requires.spans
    (subst (λ (f : ParseFault). StandsAtToken f c.args.tokens.now) c.in-TooDeep.is c.requires.at_token)

pub left_out-requires : goal.left_out-requires
left_out-requires c =
    token_boundary c.args.text.now c.args.tokens.now c.in-Unsupported.at c.requires.spans
    (subst (λ (f : ParseFault). StandsAtToken f c.args.tokens.now) c.in-Unsupported.is c.requires.at_token)

pub returns-in-Syntax : goal.returns-in-Syntax
returns-in-Syntax c =
    where_misspelt c.args.number c.args.text.now c.faulty.result c.in-Syntax.at c.args.tokens.now c.args.fault
    c.in-Syntax.is
    c.requires.utf8 c.requires.cut c.requires.why c.requires.at_token c.faulty.ensures

pub returns-in-TooDeep : goal.returns-in-TooDeep
returns-in-TooDeep c =
    where_too_deep c.args.number c.args.text.now c.faulty-in-TooDeep.result c.in-TooDeep.at c.args.tokens.now
    c.args.fault
    c.in-TooDeep.is c.requires.utf8 c.requires.cut c.requires.why c.faulty-in-TooDeep.ensures

pub returns-in-Unsupported : goal.returns-in-Unsupported
returns-in-Unsupported c =
    where_left_out c.args.number c.args.text.now c.left_out.result c.in-Unsupported.at c.args.tokens.now c.args.fault
    c.in-Unsupported.name c.as_str.result.now c.in-Unsupported.is c.as_str.ensures c.requires.utf8 c.requires.cut
    c.requires.why
    c.requires.at_token c.left_out.ensures
