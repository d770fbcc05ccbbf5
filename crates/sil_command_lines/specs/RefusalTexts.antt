-- The lines of a refusal, by what is found first.
use Rattle.std.specs.Prelude.{List, ℕ}
use Rattle.sil_ast.specs.declared.module.Module.{Module}
use Rattle.sil_verifier_accepted.specs.AcceptedModules.Findings.{Finding, item, limit, typing, value}
use Rattle.sil_command_lines.specs.Texts.{refused_item_text, type_limit_text, typing_text}
use Rattle.sil_command_lines.specs.ValueTexts.{value_text}

-- the lines of what is found
abbrev pub refusal_text : Module → Finding → List ℕ
refusal_text m (item r n) = refused_item_text r n
refusal_text m (limit what) = type_limit_text what
refusal_text m (typing fault) = typing_text m fault
refusal_text m (value n s) = value_text m n s
