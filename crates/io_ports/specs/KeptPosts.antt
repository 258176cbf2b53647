-- The posts that a list of posts keeps.
use Rattle.desk_laws.specs.Scene.{Post, Reply as PostReply, Ended as PostEnded}
use Rattle.io_ports.specs.declared.post_list.KeptPost.{KeptPost}
use Rattle.io_ports.specs.declared.post_list.KeptPost.TheVariants.{Reply, Ended}

-- the post that is kept so
abbrev pub post_of : KeptPost → Post
post_of (Reply guest bytes) = PostReply guest bytes.items
post_of (Ended guest cause) = PostEnded guest cause
