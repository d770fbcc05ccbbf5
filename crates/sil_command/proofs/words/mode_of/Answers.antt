-- The mode is the one that is said, since the words say one thing.
use Rattle.std.proofs.Common.{List, ℕ, Bor, map}
use Rattle.std.specs.Prelude.{MatchOption}
use Rattle.std.proofs.lemmas.Result.{IfOk-weaker}
use Rattle.sil_command.specs.Words.{AsksFor, IsCommandLine, word_of}
use Rattle.sil_command.proofs.Asked.{IsNone, IsSaid, asked, told}
use Rattle.sil_command.proofs.words.mode_of.Goals as goal

pub returns-in-Some : goal.returns-in-Some
returns-in-Some c =
    let words = map {A = Bor (List ℕ)} (λ w. w.now) c.args.words.now in
    let said = c.in-Some.said in
    IfOk-weaker c.mode_said.result
    (λ found. MatchOption found (IsNone said.mode.now (told said.number) (told said.turns) (told said.entry) said.optimize)
    (IsSaid said.mode.now (told said.number) (told said.turns) (told said.entry) said.optimize))
    (λ found. MatchOption found (IsCommandLine words → ⊥) (AsksFor words))
    (asked c.command_lines_say_one_thing.ensures words said.mode.now (told said.number) (told said.turns) (told said.entry) said.optimize (rw c.in-Some.is at c.in_ok-said.ensures))
    c.mode_said.ensures

pub returns-in-None : goal.returns-in-None
returns-in-None c = λ line. (rw c.in-None.is at c.in_ok-said.ensures) (word_of line.0, line.1.number, line.1.turns, line.1.entry, line.1.flag, line.1.says)
