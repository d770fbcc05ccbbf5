use Rattle.std.proofs.Common.{ap, ap₂, true, ◌≡◌, ◌∙◌, Some}
use Rattle.std.proofs.lemmas.Result.{IfOk-weaker}
use Rattle.clap.specs.Simple.{app_of, app_of_fields, on_top, with_rule}
use Rattle.clap.specs.Walk.{Rule, rule_of}
use Rattle.clap.specs.declared.builder.action.ArgAction.TheVariants.{SetTrue}
use Rattle.clap.specs.declared.builder.arg.Arg.{Arg}
use Rattle.sil_command_words.specs.CommandLines.{Argument, turns, entry, optimize, name_of}
use Rattle.sil_command_words.specs.inner.ClapCommand.{bare_app, flag_rule, mode_rule, number_rule, option_rule}
use Rattle.sil_command_words.proofs.declared_command.declared_command.Goals as goal

abbrev as_long : Argument → Rule → Rule
as_long a r = record r { long = Some (name_of a) }

pub returns : goal.returns
returns c =
    let mode_is : rule_of c.required-mode.result ≡ mode_rule =
    ap rule_of c.required-mode.ensures ∙ ap (λ (r : Rule). record r { required = true }) c.new.ensures.rule in
    let number_is : rule_of c.new-number.result ≡ number_rule = c.new-number.ensures.rule in
    let turns_is : rule_of c.long-turns.result ≡ option_rule turns = ap rule_of c.long-turns.ensures ∙ ap (as_long turns) c.new-2.ensures.rule in
    let entry_is : rule_of c.long-entry.result ≡ option_rule entry = ap rule_of c.long-entry.ensures ∙ ap (as_long entry) c.new-3.ensures.rule in
    let flag_is : rule_of c.action-optimize.result ≡ flag_rule =
    ap rule_of c.action-optimize.ensures ∙ ap (λ (a : Arg). rule_of (record a { action = Some SetTrue })) c.long.ensures
    ∙ ap (λ (r : Rule). record (as_long optimize r) { action = Some SetTrue }) c.new-4.ensures.rule in
    let bare_is : app_of c.disable_help_flag.result ≡ bare_app =
    ap app_of_fields c.disable_help_flag.ensures
    ∙ ap (on_top (λ s. record s { disable_help_flag = true }))
    (ap app_of_fields c.no_binary_name.ensures ∙ ap (on_top (λ s. record s { no_binary_name = true })) c.new-5.ensures.app) in
    let mode_here = ap (λ (a : Arg). a.global) c.required-mode.ensures ∙ c.new.ensures.optional.1 in
    let turns_here = ap (λ (a : Arg). a.global) c.long-turns.ensures ∙ c.new-2.ensures.optional.1 in
    let entry_here = ap (λ (a : Arg). a.global) c.long-entry.ensures ∙ c.new-3.ensures.optional.1 in
    let flag_here =
    ap (λ (a : Arg). a.global) c.action-optimize.ensures ∙ ap (λ (a : Arg). a.global) c.long.ensures ∙ c.new-4.ensures.optional.1 in
    let with_mode = c.in_ok-arg.ensures.shape mode_here ∙ ap₂ with_rule bare_is mode_is in
    let with_number = c.in_ok-arg-2.ensures.shape c.new-number.ensures.optional.1 ∙ ap₂ with_rule with_mode number_is in
    let with_turns = c.in_ok-arg-3.ensures.shape turns_here ∙ ap₂ with_rule with_number turns_is in
    let with_entry = c.in_ok-arg-4.ensures.shape entry_here ∙ ap₂ with_rule with_turns entry_is in
    IfOk-weaker c.arg-5.result _ _ (λ command added. added.shape flag_here ∙ ap₂ with_rule with_entry flag_is) c.arg-5.ensures
