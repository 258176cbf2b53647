-- Configurations written by hand, and what the definitions make of them.
use Rattle.std.proofs.Common.{◌≡◌, ℕ, List, [], ◌∷◌, Option, Some, None, option_map, codes, pos, refl}
use Rattle.toml.specs.Data.{table}
use Rattle.toml.specs.Parse.{parse_document}
use Rattle.toml.proofs.OnLiterals.{toml_on_literals}
use Rattle.desk_laws.specs.Rules.{first_broken}
use Rattle.guid_config.specs.declared.live.Live.{Live}
use Rattle.guid_config.specs.Shape.{live_of}

-- what a document states: None where it is none of a configuration, and None of that where it is no document
abbrev stated : List ℕ → Option (Option Live)
stated text = option_map (λ tree. live_of (table tree)) (parse_document text)

-- the first rule that the setup of a document breaks
abbrev broken : List ℕ → Option (Option (Option ℕ))
broken text = option_map (option_map (λ live. first_broken live.setup)) (stated text)

-- a guest `red` on a desk of 8 by 6 pixels, with what is usual beside it
small_desk : stated (codes "width = 8\nheight = 6\nborder = 1\n[[guest]]\nname = \"red\"\ncolour = \"ff0000\"\n") ≡ Some (Some (record {
  setup = record {
    width = 8;
    height = 6;
    border = 1;
    pages = 8192;
    tiles = 4096;
    percent = 90;
    background = record { 0 = 0 };
    guests = record { colour = record { 0 = 16711680 }; name = codes "red" } ∷ [];
    outputs = record { x = pos 0; y = pos 0; w = 8; h = 6 } ∷ [];
    clip = 1;
    denied = [];
  };
  idle = 1000000;
}))
unfolding toml_on_literals
small_desk = refl

no_rule_broken : broken (codes "width = 8\nheight = 6\nborder = 1\n[[guest]]\nname = \"red\"\ncolour = \"ff0000\"\n") ≡ Some (Some None)
unfolding toml_on_literals
no_rule_broken = refl

border_too_wide : broken (codes "width = 8\nheight = 6\nborder = 17\n[[guest]]\nname = \"red\"\ncolour = \"ff0000\"\n") ≡ Some (Some (Some 5))
unfolding toml_on_literals
border_too_wide = refl

pair_with_a_stranger : broken (codes "width = 8\nheight = 6\nguest = [{name = \"red\", colour = \"ff0000\"}]\ndeny = [{from = \"red\", to = \"blue\"}]") ≡ Some (Some (Some 21))
unfolding toml_on_literals
pair_with_a_stranger = refl

-- the same pair twice
pair_twice : broken (codes "width = 8\nheight = 6\nguest = [{name = \"a\", colour = \"ff0000\"}, {name = \"b\", colour = \"00ff00\"}]\ndeny = [{from = \"b\", to = \"a\"}, {from = \"a\", to = \"b\"}, {from = \"b\", to = \"a\"}]") ≡ Some (Some (Some 22))
unfolding toml_on_literals
pair_twice = refl

-- pairs are in order, whatever order they are written in
pairs_in_order : option_map (option_map (λ live. live.setup.denied)) (stated (codes "width = 8\nheight = 6\nguest = [{name = \"a\", colour = \"ff0000\"}, {name = \"b\", colour = \"00ff00\"}, {name = \"c\", colour = \"0000ff\"}]\ndeny = [{from = \"c\", to = \"a\"}, {from = \"a\", to = \"c\"}, {from = \"a\", to = \"b\"}]")) ≡ Some (Some (record { from = 0; to = 1 } ∷ record { from = 0; to = 2 } ∷ record { from = 2; to = 0 } ∷ []))
unfolding toml_on_literals
pairs_in_order = refl

width_as_text : stated (codes "width = \"8\"\nheight = 6\n") ≡ Some None
unfolding toml_on_literals
width_as_text = refl

place_left_of_the_plane : stated (codes "width = 8\nheight = 6\noutput = [{x = -1, y = 0, w = 8, h = 6}]") ≡ Some None
unfolding toml_on_literals
place_left_of_the_plane = refl

no_width : stated (codes "") ≡ Some None
unfolding toml_on_literals
no_width = refl

no_value : stated (codes "width =\n") ≡ None
unfolding toml_on_literals
no_value = refl
