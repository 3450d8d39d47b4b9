-- Documents and files of a list, one behind another.
use Rattle.std.proofs.Common.{◌≡◌, ◌<◌, ◌≤◌, ◌+◌, ◌||◌, not, sym, ap, subst, refl, ℕ, Bool, List, length, drop, get_or, map, Option}
use Rattle.std.proofs.lemmas.List.{drop_all, drop_more}
use Rattle.std.specs.Prelude.{Result, Ok, if◌then◌else◌}
use Rattle.rdf_session.specs.Session.{Session}
use Rattle.rdf_session.specs.declared.format.Format.{Format}
use Rattle.rdf_keeper.specs.Program.Openings.{Opening}
use Rattle.rdf_keeper.specs.Program.Sessions.{LoadsFurther, LoadsOne}
use Rattle.rdf_keeper.specs.Program.Stages.{Ends, Stays, Then}
use Rattle.rdf_keeper.specs.Program.Texts.{ReadsNamed}
use Rattle.rdf_keeper.specs.Program.Words.{ChecksFile, ChecksFiles}
use Rattle.rdf_keeper.specs.declared.program.once_words.DocumentWord.{DocumentWord}
use Rattle.rdf_keeper.specs.declared.program.outcome.Outcome.{Outcome}
use Rattle.rdf_keeper.specs.declared.program.outcome.Outcome.TheVariants.{Done, SomeRefused}

module _ {Folder : Type 0} (step : Folder → Opening → Folder → Type 0) where
  -- the document at a place, and then those behind it
  pub further_at : (words : List DocumentWord) (i : ℕ) (d : DocumentWord) (old : Session) (s new : Folder × Option (List ℕ)) (result : Result Session Outcome) → i < length words
      → Then (ReadsNamed step (get_or words i d).path.now) (λ text. Then (Stays (LoadsOne (get_or words i d).format text old)) (λ mid. LoadsFurther step (drop (i + 1) words) mid)) s result new
      → LoadsFurther step (drop i words) old s result new
  further_at words i d old s new result here part = subst (λ ws. LoadsFurther step ws old s result new) (sym (drop_more words i d here)) part

  -- none is left
  pub further_done : (words : List DocumentWord) (i : ℕ) (old : Session) (s : Folder × Option (List ℕ)) → length words ≤ i → LoadsFurther step (drop i words) old s (Ok old) s
  further_done words i old s past = subst (λ ws. LoadsFurther step ws old s (Ok old) s) (sym (drop_all i words past)) (refl, refl)

  module _ (format : Format) (base : Option (List ℕ)) {Path : Type 0} (bytes : Path → List ℕ) where
    -- the file at a place, and then those behind it
    pub files_at : (paths : List Path) (i : ℕ) (d : Path) (refused : Bool) (s new : Folder × Option (List ℕ) × Option (List ℕ)) (outcome : Outcome) → i < length paths
        → Ends (ChecksFile step format base (bytes (get_or paths i d))) (λ sound. ChecksFiles step format base (map bytes (drop (i + 1) paths)) (refused || not sound)) s outcome new
        → ChecksFiles step format base (map bytes (drop i paths)) refused s outcome new
    files_at paths i d refused s new outcome here part = subst (λ ps. ChecksFiles step format base (map bytes ps) refused s outcome new) (sym (drop_more paths i d here)) part

    -- none is left
    pub files_done : (paths : List Path) (i : ℕ) (refused known : Bool) (s : Folder × Option (List ℕ) × Option (List ℕ)) → length paths ≤ i → refused ≡ known
        → ChecksFiles step format base (map bytes (drop i paths)) refused s (if known then SomeRefused else Done) s
    files_done paths i refused known s past is =
        subst (λ ps. ChecksFiles step format base (map bytes ps) refused s (if known then SomeRefused else Done) s) (sym (drop_all i paths past)) (ap (λ b. if b then SomeRefused else Done) (sym is), refl)
