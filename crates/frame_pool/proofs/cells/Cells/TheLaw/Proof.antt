-- A `&` to some cells holds a share of the words that were written.
use Rattle.std.specs.Prelude.{[], ◌∷◌, length}
use seplogic.Ra.Ura.{Ura}
use base.Fraction.{full_share}
use base.Fml.{Fml, Share, Lft, fsep, fbor}
use types.Logic.{Logic, lfts}
use types.Kit.{‵, raw, ◌$◌, !, qed, done, updating, now}
use types.Tokens.{bor_fracture}
use denote.Sharing.{one}
use denote.SharingLaws.{one_shr_laws}
use denote.Struct.Lending.{Lends, Lends-first, of_Lends}
use denote.Param.Shared.{copy_shared}
use denote.Struct.Field.{RawPtr-field}
use denote.Struct.Laws.{RawPtr-copy}
use Rattle.frame_pool.specs.Cells.{written, blank, freed_by}
use Rattle.frame_pool.specs.contracts.cells.Cells as C
use Rattle.frame_pool.proofs.cells.Cells.TheLaw.Statement.{statement}

-- the whole of a family, lent, is a share of it for each reader
fractures : {M : Type 1} {𝓤 : Ura M} (𝓛 : Logic 𝓤) (Φ : Share → Fml) (l : Lft) → Lends 𝓛 (Φ full_share) (one Φ) l
fractures 𝓛 Φ l κ ts inc within =
    qed 𝓛 (‵ (fbor κ (Φ full_share)) ∷ raw (lfts 𝓛 ts) ∷ []) (updating ! $ bor_fracture ! tt Φ full_share $ now ! $ done !)

pub shares : statement
shares =
    of_Lends C.struct C.the_codes C.the_heap C.the_lent (λ c p. one_shr_laws (λ q. written q c.start c.words)) (copy_shared RawPtr-field RawPtr-copy, tt)
    (λ M 𝓤 𝓛 c p. Lends-first 𝓛 (written full_share c.start c.words) (fsep (blank c.start c.words) (freed_by c.start (length c.words))) (one (λ q. written q c.start c.words)) (C.the_row).lives
    (fractures 𝓛 (λ q. written q c.start c.words) (C.the_row).lives))
