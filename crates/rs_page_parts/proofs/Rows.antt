-- Worked rows, by computation: texts within a string of JSON and within HTML.
use Rattle.std.specs.Prelude.{◌≡◌, [], ◌∷◌, refl, codes}
use Rattle.std.specs.Fmt.{digits}
use Rattle.rs_page_parts.specs.Texts.{json_text, html_text}

plain_in_json : json_text (codes "alpha-1") ≡ codes "alpha-1"
plain_in_json = refl

plain_in_html : html_text (codes "alpha-1") ≡ codes "alpha-1"
plain_in_html = refl

tag_in_json : json_text (codes "<b>") ≡ codes "\\u003cb\\u003e"
tag_in_json = refl

tag_in_html : html_text (codes "<b>") ≡ codes "&#60;b&#62;"
unfolding digits
tag_in_html = refl

-- a quotation mark, a backslash, the end of a line, and DEL
controls_in_json : json_text (34 ∷ 92 ∷ 10 ∷ 127 ∷ []) ≡ codes "\\u0022\\u005c\\u000a\\u007f"
controls_in_json = refl

controls_in_html : html_text (34 ∷ 92 ∷ 10 ∷ 127 ∷ []) ≡ codes "&#34;&#92;&#10;&#127;"
unfolding digits
controls_in_html = refl

references_in_json : json_text (codes "&'") ≡ codes "\\u0026\\u0027"
references_in_json = refl

references_in_html : html_text (codes "&'") ≡ codes "&#38;&#39;"
unfolding digits
references_in_html = refl
