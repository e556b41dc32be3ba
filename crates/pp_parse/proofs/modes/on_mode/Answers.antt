use Rattle.pp_parse_state.specs.declared.mode.Mode.TheVariants as mode
use Rattle.pp_parse_state.specs.Shown.{shown}
use Rattle.pp_parse.proofs.Stepped.{in_mode}
use Rattle.pp_parse.proofs.modes.on_mode.Goals as goal

pub returns-in-AfterInt : goal.returns-in-AfterInt
returns-in-AfterInt c =
    let text = c.args.cx.now.text.now in
    let t = c.args.cx.now.token in
    in_mode text t c.on_int.result c.args.stack.now
    c.args.mode (mode.AfterInt
    c.in-AfterInt.at) c.in-AfterInt.is (shown c.args.stack.now) (c.on_int.ensures c.args.stack.now)

pub returns-in-WantCase : goal.returns-in-WantCase
returns-in-WantCase c =
    let text = c.args.cx.now.text.now in
    let t = c.args.cx.now.token in
    in_mode text t c.on_want_case.result c.args.stack.now
    c.args.mode mode.WantCase c.in-WantCase.is (shown c.args.stack.now) (c.on_want_case.ensures c.args.stack.now)

pub returns-in-AfterStat : goal.returns-in-AfterStat
returns-in-AfterStat c =
    let text = c.args.cx.now.text.now in
    let t = c.args.cx.now.token in
    in_mode text t c.on_after_stat.result c.args.stack.now
    c.args.mode mode.AfterStat c.in-AfterStat.is (shown c.args.stack.now) (c.on_after_stat.ensures c.args.stack.now)

pub returns-in-AfterTypeParam : goal.returns-in-AfterTypeParam
returns-in-AfterTypeParam c =
    let text = c.args.cx.now.text.now in
    let t = c.args.cx.now.token in
    in_mode text t c.on_after_type_param.result c.args.stack.now
    c.args.mode mode.AfterTypeParam
    c.in-AfterTypeParam.is (shown c.args.stack.now) (c.on_after_type_param.ensures c.args.stack.now)

pub returns-in-AfterMinus : goal.returns-in-AfterMinus
returns-in-AfterMinus c =
    let text = c.args.cx.now.text.now in
    let t = c.args.cx.now.token in
    let s = shown c.args.stack.now in
    in_mode text t c.on_minus.result c.on_minus.new.stack
    c.args.mode (mode.AfterMinus c.in-AfterMinus.at c.in-AfterMinus.end) c.in-AfterMinus.is s c.on_minus.ensures

pub returns-in-AfterPatternMinus : goal.returns-in-AfterPatternMinus
returns-in-AfterPatternMinus c =
    let text = c.args.cx.now.text.now in
    let t = c.args.cx.now.token in
    let s = shown c.args.stack.now in
    in_mode text t c.on_pattern_minus.result c.on_pattern_minus.new.stack
    c.args.mode (mode.AfterPatternMinus
    c.in-AfterPatternMinus.at c.in-AfterPatternMinus.end) c.in-AfterPatternMinus.is s c.on_pattern_minus.ensures

pub returns-in-AfterLambdaName : goal.returns-in-AfterLambdaName
returns-in-AfterLambdaName c =
    let text = c.args.cx.now.text.now in
    let t = c.args.cx.now.token in
    let s = shown c.args.stack.now in
    in_mode text t c.on_lambda_name.result c.on_lambda_name.new.stack
    c.args.mode (mode.AfterLambdaName c.in-AfterLambdaName.at) c.in-AfterLambdaName.is s c.on_lambda_name.ensures

pub returns-in-AfterLambdaClosed : goal.returns-in-AfterLambdaClosed
returns-in-AfterLambdaClosed c =
    let text = c.args.cx.now.text.now in
    let t = c.args.cx.now.token in
    let s = shown c.args.stack.now in
    in_mode text t c.on_lambda_closed.result c.on_lambda_closed.new.stack
    c.args.mode (mode.AfterLambdaClosed
    c.in-AfterLambdaClosed.at) c.in-AfterLambdaClosed.is s c.on_lambda_closed.ensures
