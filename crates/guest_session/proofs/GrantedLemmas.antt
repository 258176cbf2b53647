-- What a granted input does to the rows of its guest, and how its message is told.
use Rattle.std.proofs.Common.{◌≡◌, ℕ, ◌+◌, true, List, [], ◌∷◌, ◌++◌, length, take, drop, Some, None, refl, sym, ap, ◌∙◌, subst, arith}
use Rattle.std.specs.Prelude.{◌==◌, if◌then◌else◌}
use Rattle.std.specs.List.{All}
use Rattle.std.proofs.Math.Seq.{take-append_seam}
use Rattle.std.proofs.lemmas.List.Elements.{All-head, All-tail}
use Rattle.std.proofs.lemmas.Bool.Decides.{nat_tests}
use Rattle.gui_wire.specs.DaemonMessages.{DaemonMessage, daemon_body, daemon_spelling}
use Rattle.desk_laws.specs.declared.input.GIn.{GIn}
use Rattle.desk_laws.specs.Rows.{Row, mine, row_with}
use Rattle.desk_laws.specs.Effects.{changed}
use Rattle.desk_laws.specs.Grants.{Granted, granted_by, granted_to, grant_answers, grant_change, window_of}
use Rattle.guest_session.specs.RowsView.{RowsView, with_change}
use Rattle.desk_laws.specs.Scene.{Post, replies}
use Rattle.io_ports.specs.Posts.{Leads}
use Rattle.guest_session.specs.Grants.{Grants, granted_in}

-- the spelling in front of a room
pub spelled-front : (window : ℕ) (m : DaemonMessage) (old new : List ℕ) (n : ℕ)
    → new ≡ daemon_spelling window m ++ drop (12 + length (daemon_body m)) old → n ≡ 12 + length (daemon_body m) → take n new ≡ daemon_spelling window m
spelled-front window m old new n e len =
    ap (take n) e
    ∙ ap (λ k. take k (daemon_spelling window m ++ drop (12 + length (daemon_body m)) old)) (len ∙ whole)
    ∙ take-append_seam (daemon_spelling window m) (drop (12 + length (daemon_body m)) old)
  where
    whole : 12 + length (daemon_body m) ≡ length (daemon_spelling window m)
    whole = omega (arith)

itself : (n : ℕ) → (n == n) ≡ true
itself n = grind (arith, nat_tests)

pub same-row : (a b : Row) → Some a ≡ Some b → a ≡ b
same-row a b e = cc

-- the rows of a guest alone are its own
mine-own : (guest : ℕ) (rows : List Row) → All (λ row. row.guest ≡ guest) rows → mine guest rows ≡ rows
mine-own guest [] all = refl
mine-own guest (row ∷ rows) all =
    ap (λ b. if b then row ∷ mine guest rows else mine guest rows) (ap (λ g. g == guest) (All-head (λ r. r.guest ≡ guest) row rows all) ∙ itself guest)
    ∙ ap (λ rs. row ∷ rs) (mine-own guest rows (All-tail (λ r. r.guest ≡ guest) row rows all))

module _ {O : Type 0} (takes : O → Post → O → Type 0) (out out' : O) (input : GIn) (paste : List ℕ) (rows new : RowsView) where
  -- what a grant gives, where it is known
  granted-is : (g : Granted) → granted_in rows input paste ≡ g → new ≡ record rows { rows = g.rows } → Leads takes out (replies rows.guest g.answers) out'
      → Grants takes out out' input paste rows new
  granted-is g is changes told = record {
    rows = changes ∙ ap (λ (x : Granted). record rows { rows = x.rows }) (sym is);
    told = let P : Granted → Type 0 = λ x. Leads takes out (replies rows.guest x.answers) out' in subst P (sym is) told;
  }

  -- for the guest as a whole
  pub granted-whole : window_of input ≡ None → new ≡ rows → Leads takes out (replies rows.guest (grant_answers input paste)) out' → Grants takes out out' input paste rows new
  granted-whole whole =
      granted-is (record { rows = rows.rows; answers = grant_answers input paste }) (ap (granted_by rows.guest rows.rows input paste) whole)

  module _ (own : All (λ row. row.guest ≡ rows.guest) rows.rows) (window : ℕ) (named : window_of input ≡ Some window) where
    to-window : granted_in rows input paste ≡ granted_to rows.guest rows.rows input paste (row_with window rows.rows)
    to-window =
        ap (granted_by rows.guest rows.rows input paste) named
        ∙ ap (λ rs. granted_to rows.guest rows.rows input paste (row_with window rs)) (mine-own rows.guest rows.rows own)

    -- for a window that isn't there
    pub granted-nothing : row_with window rows.rows ≡ None → new ≡ rows → out ≡ out' → Grants takes out out' input paste rows new
    granted-nothing none =
        granted-is (record { rows = rows.rows; answers = [] }) (to-window ∙ ap (granted_to rows.guest rows.rows input paste) none)

    -- for a window that is there
    pub granted-row : (row : Row) → row_with window rows.rows ≡ Some row → new ≡ with_change (grant_change input row) rows
        → Leads takes out (replies rows.guest (grant_answers input paste)) out' → Grants takes out out' input paste rows new
    granted-row row found =
        granted-is (record { rows = changed rows.guest (grant_change input row) rows.rows; answers = grant_answers input paste })
        (to-window ∙ ap (granted_to rows.guest rows.rows input paste) found)
