-- What is written of a report is written of what it reports.
use Rattle.std.proofs.Common.{◌≡◌, refl, subst}
use Rattle.std.proofs.lemmas.List.{append-nil}
use Rattle.std.proofs.lemmas.Option.{same_Some}
use Rattle.sil_ast.specs.declared.module.Module.{Module}
use Rattle.sil_verifier_accepted.specs.AcceptedModules.Findings.{Finding, item, limit, typing, value, IsLimit}
use Rattle.sil_verifier.specs.inner.Reports.{Reported}
use Rattle.sil_verifier.specs.declared.refusal.Refusal.{Refusal}
use Rattle.sil_command_lines.specs.RefusalTexts.{refusal_text}
use Rattle.sil_command.specs.inner.ReportTexts.{report_text}

-- a limit has no report
pub reported_not_limit : (m : Module) (x : Finding) (r : Refusal) → Reported m x r → IsLimit x → ⊥
reported_not_limit m (item s n) r h is = is
reported_not_limit m (limit what) r h is = cc h
reported_not_limit m (typing f) r h is = is
reported_not_limit m (value n s) r h is = is

pub reported_text : (m : Module) (x : Finding) (r : Refusal) → Reported m x r → report_text m r ≡ refusal_text m x
reported_text m (item s n) r h =
    subst (λ q. report_text m q ≡ refusal_text m (item s n)) (same_Some _ r h) (append-nil (refusal_text m (item s n)))
reported_text m (limit what) r h = cc h
reported_text m (typing f) r h =
    subst (λ q. report_text m q ≡ refusal_text m (typing f)) (same_Some _ r h) (append-nil (refusal_text m (typing f)))
reported_text m (value n s) r h =
    subst (λ q. report_text m q ≡ refusal_text m (value n s)) (same_Some _ r h) refl
