use Rattle.std.proofs.Common.{◌≡◌, ◌∙◌, inl, inr, sym, ap, subst, List, [], ℕ, map, Bor, true≢false, Option, Some, None}
use Rattle.std.specs.Prelude.{MatchOption, ◌⊎◌, codes, option_map}
use denote.Enum.Bare.{sameb}
use Rattle.clap.specs.contracts.error.kind.ErrorKind.{the_type}
use Rattle.clap.specs.declared.error.kind.ErrorKind.{ErrorKind}
use Rattle.clap.specs.declared.error.kind.ErrorKind.TheVariants as kind
use Rattle.clap.specs.declared.parser.matches.Found.{Found}
use Rattle.clap.specs.Faults.{fault_of, is_simple_and_free}
use Rattle.clap.specs.Kinds.{IsAmong, Kinds}
use Rattle.clap.specs.Simple.{app_of, is_simple, matches_of}
use Rattle.clap.specs.Values.{kind_of}
use Rattle.clap.specs.Walk.{Text, rows_of}
use Rattle.clap.specs.Words.{first_value, found_of}
use Rattle.sil_command_words.specs.CommandLines.{IsCommandLine, Says}
use Rattle.sil_command_words.specs.declared.words.CommandWords.{CommandWords}
use Rattle.sil_command_words.specs.inner.ClapCommand.{Matches, declared_app}
use Rattle.sil_command_words.proofs.Lines.{says, mode_found, line_faultless}
use Rattle.sil_command_words.proofs.Parsed.{is_simple_app, is_simple_command}
use Rattle.sil_command_words.proofs.words.read_words.Goals as goal

said : (words : List Text) (f : Found) → fault_of declared_app words ≡ [] → rows_of f ≡ matches_of declared_app words → (read : Option CommandWords)
    → MatchOption read (first_value f (codes "mode") ≡ None)
    (λ r. Matches f r.mode.now (option_map (λ v. v.now) r.number) (option_map (λ v. v.now) r.turns) (option_map (λ v. v.now) r.entry) r.optimize)
    → MatchOption read (IsCommandLine words → ⊥)
    (λ r. Says words r.mode.now (option_map (λ v. v.now) r.number) (option_map (λ v. v.now) r.turns) (option_map (λ v. v.now) r.entry) r.optimize)
said words f none all None h = λ line. mode_found words f none all h
said words f none all (Some r) h = says words f none all r.mode.now (option_map (λ v. v.now) r.number) (option_map (λ v. v.now) r.turns) (option_map (λ v. v.now) r.entry) r.optimize h

no_kind : (k : ErrorKind) (kinds : Kinds) → kinds ≡ [] → IsAmong k kinds → ⊥
no_kind k kinds none among = subst (IsAmong k) none among

pub returns-in-Ok : goal.returns-in-Ok
returns-in-Ok c =
    let words = map {A = Bor (List ℕ)} (λ w. w.now) c.args.words.now in
    let app_is = c.in_ok-declared_command.ensures in
    let none : fault_of declared_app words ≡ [] =
    subst (λ a. fault_of a words ≡ []) app_is (c.in-Ok.ensures.kinds (ap is_simple_and_free app_is ∙ is_simple_command)) in
    let all : rows_of (found_of c.in-Ok.matches) ≡ matches_of declared_app words =
    (c.in-Ok.ensures.matches (ap is_simple app_is ∙ is_simple_app)).0 ∙ ap (λ a. matches_of a words) app_is in
    said words (found_of c.in-Ok.matches) none all c.matched_words.result c.matched_words.ensures

pub returns : goal.returns
returns c = λ line.
    let words = map {A = Bor (List ℕ)} (λ w. w.now) c.args.words.now in
    let app_is = c.in_ok-declared_command.ensures in
    let none = ap (λ a. fault_of a words) app_is ∙ line_faultless words line in
    refused none (c.in-Err.ensures.kinds (ap is_simple_and_free app_is ∙ is_simple_command))
  where
    words : List Text
    words = map {A = Bor (List ℕ)} (λ w. w.now) c.args.words.now

    refused : fault_of (app_of c.in_ok-declared_command.field-0) words ≡ []
        → (kind_of c.in-Err.error ≡ kind.OutOfMemory) ⊎ IsAmong (kind_of c.in-Err.error) (fault_of (app_of c.in_ok-declared_command.field-0) words) → ⊥
    refused none (inl exhausted) =
        let same : c.eq.result ≡ sameb the_type kind.OutOfMemory kind.OutOfMemory =
        subst (λ k. c.eq.result ≡ sameb the_type k kind.OutOfMemory) (c.kind.ensures ∙ exhausted) c.eq.ensures in
        true≢false (sym same ∙ c.if-eq.false)
    refused none (inr among) = no_kind (kind_of c.in-Err.error) (fault_of (app_of c.in_ok-declared_command.field-0) words) none among
