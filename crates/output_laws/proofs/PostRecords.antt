-- Which posts have records, but for the values of causes.
use Rattle.std.proofs.Common.{◌<◌, ◌≤◌, ◌^◌, ℕ, ◌≡◌, true, List, [], ◌∷◌, map, arith}
use Rattle.std.specs.List.{All, list_all}
use Rattle.std.proofs.lemmas.Bool.{and_parts}
use Rattle.std.proofs.lemmas.List.Elements.{All-nil, All-cons, All-map, All-weaker}
use Rattle.gui_num.specs.declared.Rect.{Rect}
use Rattle.desk_laws.specs.declared.setup.Setup.{Setup}
use Rattle.desk_laws.specs.declared.cause.Cause.{Cause}
use Rattle.desk_laws.specs.declared.cause.Cause.TheVariants.{BadVersion, BadType, BadLength, BadRange, UnknownWindow, WindowExists, TooManyWindows, RefRange, FrameBudget, PixelBudget, ClipTooLong, StreamEnded, LinkFailed}
use Rattle.desk_laws.specs.Causes.{number_of}
use Rattle.desk_laws.specs.Rules.{is_output}
use Rattle.desk_laws.specs.Rows.{Row}
use Rattle.desk_laws.specs.Layers.{Layers}
use Rattle.desk_laws.specs.Picture.{colour_at}
use Rattle.desk_laws.specs.Scene.{Counts, Post, Reply, Ended, Summary, replies}
use Rattle.desk_laws.specs.Steps.{picture_post}
use Rattle.record_format.specs.PostFields.{HasPostSpelling}
use Rattle.record_format.specs.OutputRecords.{out_of, HaveRecords}
use Rattle.output_laws.specs.RunRecords.{HasCauseWidths, CausesFit}
use Rattle.output_laws.proofs.AnswerLengths.{IsShort, AreShort}
use Rattle.output_laws.proofs.PictureLengths.{picture-short}

-- a post has a record where its cause's values, if it has a cause, have 32 bits
abbrev pub HasRecord : ℕ → Post → Type 0
HasRecord painted post = HasCauseWidths post → HasPostSpelling (out_of painted post)

-- each of these posts has
abbrev pub RecordAll : ℕ → List Post → Type 0
RecordAll painted posts = All (HasRecord painted) posts

pub nothing-recorded : (painted : ℕ) → RecordAll painted []
nothing-recorded painted = All-nil (HasRecord painted)

-- answers to a guest
pub replies-recorded : (painted guest : ℕ) → guest < 2 ^ 8 → (answers : List (List ℕ)) → AreShort answers → RecordAll painted (replies guest answers)
replies-recorded painted guest small answers short =
    All-map (HasRecord painted) (Reply guest) answers (All-weaker IsShort (λ answer. HasRecord painted (Reply guest answer)) (λ answer s widths. (small, s)) answers short)

number-small : (cause : Cause) → number_of cause < 2 ^ 8
number-small (BadVersion a b) = omega arith
number-small (BadType a b) = omega arith
number-small (BadLength a b) = omega arith
number-small (BadRange a b) = omega arith
number-small (UnknownWindow a b) = omega arith
number-small (WindowExists a b) = omega arith
number-small (TooManyWindows a b) = omega arith
number-small (RefRange a b) = omega arith
number-small (FrameBudget a b) = omega arith
number-small (PixelBudget a b) = omega arith
number-small (ClipTooLong a b) = omega arith
number-small (StreamEnded a b) = omega arith
number-small (LinkFailed a b) = omega arith

-- the end of a guest's session
pub end-recorded : (painted guest : ℕ) (cause : Cause) → guest < 2 ^ 8 → RecordAll painted (Ended guest cause ∷ [])
end-recorded painted guest cause small =
    All-cons (HasRecord painted) (Ended guest cause) [] (λ widths. (small, number-small cause, widths.0, widths.1)) (nothing-recorded painted)

-- the pictures of outputs in a plane
pub pictures-recorded : (painted width height : ℕ) (setup : Setup) (rows : List Row) (layers : Layers) → width ≤ 8192 → height ≤ 8192
    → (outputs : List Rect) → list_all (is_output width height) outputs ≡ true → RecordAll painted (map (picture_post setup rows layers) outputs)
pictures-recorded painted width height setup rows layers wide high [] all = nothing-recorded painted
pictures-recorded painted width height setup rows layers wide high (output ∷ outputs) all =
    let parts = and_parts (is_output width height output) (list_all (is_output width height) outputs) all in
    All-cons (HasRecord painted) (picture_post setup rows layers output) (map (picture_post setup rows layers) outputs)
    (λ widths. picture-short width height output (colour_at setup rows layers) wide high parts.0)
    (pictures-recorded painted width height setup rows layers wide high outputs parts.1)

-- counts of 64 bits
pub record HasCountWidths (counts : Counts) : Type 0 where
  pub items : counts.items < 2 ^ 64
  pub messages : counts.messages < 2 ^ 64
  pub glances : counts.glances < 2 ^ 64

-- the summary
pub summary-recorded : (painted : ℕ) (counts : Counts) → painted < 2 ^ 64 → HasCountWidths counts → RecordAll painted (Summary counts ∷ [])
summary-recorded painted counts small fit =
    All-cons (HasRecord painted) (Summary counts) [] (λ widths. (fit.items, fit.messages, fit.glances, small)) (nothing-recorded painted)

-- with the values of the causes
pub recorded : (painted : ℕ) (posts : List Post) → RecordAll painted posts → CausesFit posts → HaveRecords painted posts
recorded painted posts all causes = λ k d below. all k d below (causes k d below)
