-- What a page is, and of what one is made.
use Rattle.std.specs.Prelude.{ℕ, Bool, List, ◌++◌, codes, nat_eq}
use Rattle.std.specs.List.{starts_with}
use Rattle.map_page.specs.declared.head.TheConstants.{HEAD}
use Rattle.map_page.specs.declared.tail.TheConstants.{TAIL}

-- the page of a picture: the head, the picture's bytes, the tail; opaque, so that no proof goes through the two texts
unfoldable pub page_bytes : List ℕ → List ℕ
page_bytes svg = HEAD.now ++ svg ++ TAIL.now

-- a picture of octimap, be it a map, one with its names at free places, a geographic one or a poster: its first bytes
-- are those with which each of these begins
unfoldable pub is_picture : List ℕ → Bool
is_picture bytes =
    starts_with nat_eq bytes (codes "<svg xmlns=\"http://www.w3.org/2000/svg\" version=\"1.1\" viewBox=\"")
