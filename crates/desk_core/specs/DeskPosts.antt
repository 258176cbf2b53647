-- What a step tells guests, and what its answer tells.
use Rattle.std.specs.Prelude.{Bool, true, false, List, filter}
use Rattle.desk_laws.specs.Scene.{Post, Reply, Ended, Picture, Summary}

-- whether a post is for a guest
abbrev pub is_for_guest : Post → Bool
is_for_guest (Reply guest bytes) = true
is_for_guest (Ended guest cause) = true
is_for_guest (Picture width height colours) = false
is_for_guest (Summary counts) = false

-- the posts for guests among these
abbrev pub guest_posts : List Post → List Post
guest_posts posts = filter is_for_guest posts
