-- The bytes of a client's requests (RFC 9112, section 3); which fields they have is this project's profile.
use Rattle.std.specs.Prelude.{ℕ, List, ◌++◌, length, decimal, codes}
use Rattle.update_client.specs.declared.heads.address.Address.{Address}
use Rattle.update_client.specs.declared.heads.request.Post.{Post}

-- the head of a GET of the path at the host, over a connection of its own
unfoldable pub get_lines : List ℕ → List ℕ → List ℕ
get_lines host path =
    codes "GET /" ++ (path ++ (codes " HTTP/1.1\r\nHost: " ++ (host ++ codes "\r\nConnection: close\r\n\r\n")))

-- the head of a POST of so many bytes of that type to the path at the host, over a connection of its own
unfoldable pub post_lines : List ℕ → List ℕ → List ℕ → ℕ → List ℕ
post_lines host path kind size =
    codes "POST " ++ (path ++ (codes " HTTP/1.1\r\nHost: " ++ (host
    ++ (codes "\r\nContent-Type: " ++ (kind ++ (codes "\r\nContent-Length: " ++ (decimal size
    ++ codes "\r\nConnection: close\r\n\r\n")))))))

-- GET of the address's path, to the host that the address writes; it has no body
abbrev pub get_request : Address → List ℕ
get_request address = get_lines address.authority.now address.path.now

-- rule: Request of a post
-- POST to the path, and the body
abbrev pub post_request : Post → List ℕ
post_request post =
    post_lines post.host.now post.path.now post.kind.now (length post.body.now) ++ post.body.now
